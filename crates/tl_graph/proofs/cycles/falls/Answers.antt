use Rattle.std.proofs.Common.{◌≤◌, length, below_more, refl, arith}
use Rattle.std.proofs.lemmas.Bool.{iff_false}
use Rattle.tl_graph.specs.Paths.{edges_in}
use Rattle.tl_graph.proofs.NodeLists.{length_edges}
use Rattle.tl_graph.proofs.GraphPaths.{none_rises}
use Rattle.tl_graph.proofs.cycles.falls.Goals as goal

pub loop-k-preserved : goal.loop-k-preserved
loop-k-preserved c = below_more _ _ c.loop-k.invariant (iff_false c.rises.ensures c.if-rises.false)

pub returns : goal.returns
returns c =
    let all : length (edges_in c.args.edges.now) ≤ c.loop-k.k = omega (arith, c.loop-k-test.false, length_edges c.args.edges.now) in
    (λ h. none_rises (edges_in c.args.edges.now) c.args.ranks.now c.loop-k.k all c.loop-k.invariant, λ h. refl)
