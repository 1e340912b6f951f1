use Rattle.std.proofs.Common.{◌<◌, length, get_or, Some, refl, ap, ◌∙◌, subst, arith}
use Rattle.std.proofs.lemmas.List.{take_all}
use Rattle.std.proofs.lemmas.Option.{slice_get_read, slice_get-get_or}
use Rattle.tl_graph.specs.Steps.{Reached}
use Rattle.tl_graph.proofs.NodeLists.{take_push}
use Rattle.tl_graph.proofs.ReachedNodes.{reached_none, reached_again, reached_new}
use Rattle.tl_graph.proofs.paths.reach.Goals as goal
use Rattle.tl_graph.proofs.paths.reach.Goals.{then-not-index+in_ok-push, else-not-index}

pub loop-j-init : goal.loop-j-init
loop-j-init c = reached_none _ _

pub index-requires : goal.index-requires
index-requires c =
    let within = c.requires _ (c.loop-j.j-index, slice_get-get_or c.args.nodes.now c.loop-j.j-index 0 c.loop-j-test.true) in
    omega (arith, within, c.loop-j.invariant.count)

pub index_mut-requires : goal.index_mut-requires
index_mut-requires c =
    let within = c.requires _ (c.loop-j.j-index, slice_get-get_or c.args.nodes.now c.loop-j.j-index 0 c.loop-j-test.true) in
    omega (arith, within, c.loop-j.invariant.count)

pub loop-j-preserved : goal.loop-j-preserved
loop-j-preserved c =
    let at = slice_get-get_or c.args.nodes.now c.loop-j.j-index 0 c.loop-j-test.true in
    let low = c.requires _ (c.loop-j.j-index, at) in
    let within : get_or c.args.nodes.now c.loop-j.j-index 0 < length c.loop-j.reached.items = omega (arith, low, c.loop-j.invariant.count) in
    let mark = slice_get_read c.loop-j.reached.items _ _ c.index.result.now refl within c.index.ensures in
    rw (take_push c.args.nodes.now c.loop-j.j-index _ at) (elim c.if-not-index.branch [
      | then-not-index+in_ok-push w ↦ rw (w.reached-is, w.pending-is, w.in_ok-push.ensures.items) (reached_new _ _ _ _ _ c.loop-j.invariant _ (mark ∙ ap Some w.if-not-index.true))
      | else-not-index w ↦ rw (w.reached-is, w.pending-is) (reached_again _ _ _ _ _ c.loop-j.invariant _ (mark ∙ ap Some w.if-not-index.false))
    ])

pub returns : goal.returns
returns c = subst (λ js. Reached c.args.reached.now.items c.args.pending.now.items js c.loop-j.reached.items c.loop-j.pending.items) (take_all c.loop-j.j-index c.args.nodes.now c.loop-j-test.false) c.loop-j.invariant
