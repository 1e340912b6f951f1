use Rattle.tl_graph.specs.Needs.{needs_in}
use Rattle.tl_graph.specs.Steps.{MarksMore}
use Rattle.tl_graph.proofs.marks.mark_these.Given as goal

abbrev pub invariant-loop-k : goal.invariant-loop-k
invariant-loop-k l = MarksMore (needs_in l.needs) l.fn.marks.items l.marks.items
