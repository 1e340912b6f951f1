use Rattle.std.proofs.Common.{◌<◌, ℕ}
use Rattle.tl_graph.specs.Paths.{edges_in}
use Rattle.tl_graph.specs.Paths.{Edge, IsOnCycle}
use Rattle.tl_graph.proofs.cycles.first_on_cycle.Given as goal

abbrev pub invariant-loop-k : goal.invariant-loop-k
invariant-loop-k l = (j : ℕ) → j < l.k → ¬ IsOnCycle (Edge (edges_in l.edges)) j
