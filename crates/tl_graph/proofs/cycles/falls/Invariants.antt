use Rattle.std.proofs.Common.{◌<◌, ℕ}
use Rattle.tl_graph.specs.Paths.{edges_in}
use Rattle.tl_graph.specs.Steps.{Rises}
use Rattle.tl_graph.proofs.cycles.falls.Given as goal

abbrev pub invariant-loop-k : goal.invariant-loop-k
invariant-loop-k l = (i : ℕ) → i < l.k → ¬ Rises (edges_in l.edges) l.ranks i
