use Rattle.tl_graph.specs.Needs.{needs_in}
use Rattle.tl_graph.proofs.MarkedNodes.{Pass}
use Rattle.tl_graph.proofs.marks.mark_more.Given as goal

abbrev pub invariant-loop-k : goal.invariant-loop-k
invariant-loop-k l = Pass (needs_in l.needs) l.fn.marks.items l.k l.marks.items l.is_more
