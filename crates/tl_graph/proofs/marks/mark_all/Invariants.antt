use Rattle.std.proofs.Common.{◌≡◌, length}
use Rattle.tl_graph.specs.Needs.{needs_in}
use Rattle.tl_graph.specs.Steps.{MarksMore, unmarked}
use Rattle.tl_graph.proofs.marks.mark_all.Given as goal

abbrev pub invariant-loop : goal.invariant-loop
invariant-loop l = record {
  count : length l.marks.items ≡ length l.needs;
  more : MarksMore (needs_in l.needs) l.fn.marks.items l.marks.items;
}

abbrev pub decreases-loop : goal.decreases-loop
decreases-loop l = unmarked l.marks.items
