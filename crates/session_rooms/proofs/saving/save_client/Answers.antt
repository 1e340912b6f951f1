use Rattle.std.proofs.Common.{true, false}
use Rattle.std.proofs.lemmas.Result.{err_from_is_err_and}
use Rattle.tl_base.specs.declared.host.Out.TheVariants as outs
use Rattle.outside.specs.Events.{created}
use Rattle.outside.proofs.Growing.{did_both, did_call, did_none}
use Rattle.session_rooms.specs.Client.{Leaves, after_create}
use Rattle.session_rooms.proofs.LeftClients.{can_leave, left_so}
use Rattle.session_rooms.proofs.saving.save_client.Goals as goal

pub returns-in_err-saving : goal.returns-in_err-saving
returns-in_err-saving g c =
    let q = err_from_is_err_and c.from_residual.result c.from_residual.ensures.1 in
    rw q.1 (did_none (Leaves c.args.profile.now c.args.name.now c.args.client.now) _ (can_leave c.args.profile.now c.args.name.now c.args.client.now))

pub returns-in-Ok : goal.returns-in-Ok
returns-in-Ok g c =
    let of = c.in_ok-saving.ensures in
    left_so c.args.profile.now c.args.name.now c.args.client.now _ of _ _ _
    (did_both _ (after_create c.args.client.now _) _ _ _ true _ (did_call (created outs.State c.args.name.now) _ _ true c.in-Ok.ensures) (c.write_state.ensures c.args.client.now of.line))

pub returns : goal.returns
returns g c =
    left_so c.args.profile.now c.args.name.now c.args.client.now _ c.in_ok-saving.ensures _ _ _
    (did_both _ (after_create c.args.client.now _) _ _ _ false _ (did_call (created outs.State c.args.name.now) _ _ false c.in-Err.ensures) c.tell.ensures)
