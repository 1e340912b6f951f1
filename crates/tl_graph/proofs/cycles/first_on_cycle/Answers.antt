use Rattle.std.proofs.Common.{◌≤◌, length, not, below_more, ap, sym, ◌∙◌, true≢false, arith}
use Rattle.std.proofs.lemmas.Bool.{iff_false}
use Rattle.tl_graph.specs.Paths.{edges_in}
use Rattle.tl_graph.specs.Paths.{Edge, IsOnCycle}
use Rattle.tl_graph.proofs.FirstNodes.{first_none}
use Rattle.tl_graph.proofs.NodeLists.{length_edges}
use Rattle.tl_graph.proofs.GraphPaths.{begins_within, cycle_stays}
use Rattle.tl_graph.proofs.cycles.first_on_cycle.Goals as goal
use Rattle.tl_graph.proofs.cycles.first_on_cycle.Goals.{then-not-is_sorted, else-not-is_sorted, else-may_return-via-then-may_return+in_ok-returns+else-branch, else-may_return-via-else-may_return}

pub loop-k-preserved : goal.loop-k-preserved
loop-k-preserved c = below_more _ _ c.loop-k.invariant (elim c.else-may_return.branch [
  | else-may_return-via-then-may_return+in_ok-returns+else-branch w ↦ iff_false w.in_ok-returns.ensures w.if-branch.false
  | else-may_return-via-else-may_return w ↦ elim c.if-not-is_sorted.branch [
    | then-not-is_sorted v ↦ absurd (true≢false (sym (ap not v.if-not-is_sorted.true) ∙ sym v.may_return-is ∙ w.if-may_return.false))
    | else-not-is_sorted v ↦ λ cycle.
        let falls = c.falls-is_sorted.ensures.0 v.if-not-is_sorted.false in
        iff_false v.stays-may_return.ensures (sym v.may_return-is ∙ w.if-may_return.false) (cycle_stays (edges_in c.args.edges.now) c.args.ranks.now falls c.loop-k.k cycle)
  ]
])

pub returns : goal.returns
returns c =
    let all : length (edges_in c.args.edges.now) ≤ c.loop-k.k = omega (arith, c.loop-k-test.false, length_edges c.args.edges.now) in
    first_none (IsOnCycle (Edge (edges_in c.args.edges.now))) _ c.loop-k.k (λ k cycle. begins_within (edges_in c.args.edges.now) k k cycle) all c.loop-k.invariant
