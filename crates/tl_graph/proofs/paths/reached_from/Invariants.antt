use Rattle.std.proofs.Common.{◌+◌, length}
use Rattle.tl_graph.specs.Steps.{unmarked}
use Rattle.tl_graph.specs.Paths.{edges_in}
use Rattle.tl_graph.proofs.Explored.{Explored}
use Rattle.tl_graph.proofs.paths.reached_from.Given as goal

abbrev pub invariant-loop-i : goal.invariant-loop-i
invariant-loop-i l = Explored (edges_in l.edges) l.k l.reached.items l.pending.items

abbrev pub decreases-loop-i : goal.decreases-loop-i
decreases-loop-i l = length l.pending.items + unmarked l.reached.items
