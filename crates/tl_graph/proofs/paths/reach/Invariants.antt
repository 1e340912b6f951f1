use Rattle.std.proofs.Common.{take}
use Rattle.tl_graph.specs.Steps.{Reached}
use Rattle.tl_graph.proofs.paths.reach.Given as goal

abbrev pub invariant-loop-j : goal.invariant-loop-j
invariant-loop-j l = Reached l.fn.reached.items l.fn.pending.items (take l.j-index l.nodes) l.reached.items l.pending.items
