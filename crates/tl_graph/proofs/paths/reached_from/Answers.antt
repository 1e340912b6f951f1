use Rattle.std.proofs.Common.{◌≡◌, ◌<◌, length, arith}
use Rattle.tl_graph.specs.Paths.{edges_in}
use Rattle.tl_graph.proofs.NodeLists.{leads_within, length_edges, edges_at, no_items}
use Rattle.tl_graph.proofs.Explored.{explored_first, explored_more, explored_marks, pending_within}
use Rattle.tl_graph.proofs.paths.reached_from.Goals as goal

pub reach-requires : goal.reach-requires
reach-requires c =
    let count : length c.in_ok-reached.reached.items ≡ length (edges_in c.args.edges.now) = omega (arith, c.in_ok-reached.ensures.count, length_edges c.args.edges.now) in
    let at = edges_at c.args.edges.now c.args.k c.index-edges-k.result c.deref.result.now c.requires.node c.index-edges-k.is c.deref.ensures.value in
    leads_within (edges_in c.args.edges.now) _ c.args.k _ c.requires.graph count at

pub loop-i-init : goal.loop-i-init
loop-i-init c =
    let count : length c.in_ok-reached.reached.items ≡ length (edges_in c.args.edges.now) = omega (arith, c.in_ok-reached.ensures.count, length_edges c.args.edges.now) in
    let at = edges_at c.args.edges.now c.args.k c.index-edges-k.result c.deref.result.now c.requires.node c.index-edges-k.is c.deref.ensures.value in
    explored_first (edges_in c.args.edges.now) c.args.k _ _ _ _ count c.in_ok-reached.ensures.none at (rw c.new-pending.ensures.items at c.in_ok-reach.ensures)

pub bounds-edges-i : goal.bounds-edges-i
bounds-edges-i c =
    let within = pending_within _ _ _ _ _ _ c.loop-i.invariant c.in-Some.ensures.items in
    omega (arith, within, length_edges c.args.edges.now)

pub reach-requires-in-Some : goal.reach-requires-in-Some
reach-requires-in-Some c =
    let below = pending_within _ _ _ _ _ _ c.loop-i.invariant c.in-Some.ensures.items in
    let within : c.in-Some.i < length c.args.edges.now = omega (arith, below, length_edges c.args.edges.now) in
    let at = edges_at c.args.edges.now c.in-Some.i c.index-edges-i.result c.deref-in-Some.result.now within c.index-edges-i.is c.deref-in-Some.ensures.value in
    leads_within (edges_in c.args.edges.now) _ c.in-Some.i _ c.requires.graph c.loop-i.invariant.count at

pub loop-i-preserved : goal.loop-i-preserved
loop-i-preserved c =
    let below = pending_within _ _ _ _ _ _ c.loop-i.invariant c.in-Some.ensures.items in
    let within : c.in-Some.i < length c.args.edges.now = omega (arith, below, length_edges c.args.edges.now) in
    let at = edges_at c.args.edges.now c.in-Some.i c.index-edges-i.result c.deref-in-Some.result.now within c.index-edges-i.is c.deref-in-Some.ensures.value in
    explored_more (edges_in c.args.edges.now) c.args.k _ _ _ _ _ c.in-Some.i (rw c.in-Some.ensures.items at c.loop-i.invariant) at c.in_ok-reach-2.ensures

pub returns-clause-count : goal.returns-clause-count
returns-clause-count c = omega (arith, c.loop-i.invariant.count, length_edges c.args.edges.now)

pub returns-clause-marks : goal.returns-clause-marks
returns-clause-marks c =
    let none = no_items c.loop-i.pending.items (omega (arith, c.in_default.ensures.cases.0)) in
    explored_marks _ _ _ (rw none at c.loop-i.invariant)
