use Rattle.std.proofs.Common.{arith, refl, ◌<◌, length}
use Rattle.std.proofs.lemmas.Result.{err_from_is_err_and}
use Rattle.std.specs.Vec.{with_item}
use Rattle.box_events.specs.declared.steps.Step.TheVariants as step
use Rattle.update_world.specs.declared.parts.WorldParts.{WorldParts}
use Rattle.update_world.proofs.ClientSteps.{client_at}
use Rattle.update_world.proofs.Exits.{no_such_client}
use Rattle.update_world.proofs.Hearing.{frame_taken, hear_done, hear_refused}
use Rattle.update_world.proofs.client_steps.hear.Goals as goal

pub returns-then-client-len-clause-step : goal.returns-then-client-len-clause-step
returns-then-client-len-clause-step c = λ w st. no_such_client c.args.profile.now c.args.parts.now (step.Hear c.args.client c.args.packet) w c.args.client st refl (omega (arith, c.if-client-len.true, c.len.ensures, c.args.parts.now.clients.ok.0))

pub returns-in_err-frame-clause-step : goal.returns-in_err-frame-clause-step
returns-in_err-frame-clause-step c = λ w st.
    let a : WorldParts = c.args.parts.now in
    let lt : c.args.client < length a.clients.items = omega (arith, c.if-client-len.false, c.len.ensures, a.clients.ok.0) in
    let p = err_from_is_err_and c.from_residual.result c.from_residual.ensures.1 in
    rw (p.1, p.2) (hear_refused c.args.profile.now a a w c.args.client c.args.packet c.in_err-frame.field-0.0 st lt c.in_err-frame.ensures refl)

pub deliver-requires-clause-taken : goal.deliver-requires-clause-taken
deliver-requires-clause-taken c =
    let a : WorldParts = c.args.parts.now in
    let lt : c.args.client < length a.clients.items = omega (arith, c.if-client-len.false, c.len.ensures, a.clients.ok.0) in
    frame_taken c.args.profile.now a c.args.client c.args.packet c.in_ok-frame.frame c.index_mut.result.now c.requires c.in_ok-frame.ensures (client_at a.clients.items c.args.client c.index_mut.result.now lt c.index_mut.ensures.value)

pub returns-clause-step : goal.returns-clause-step
returns-clause-step c = λ w st.
    let a : WorldParts = c.args.parts.now in
    let b : WorldParts = record { server = a.server; clients = with_item a.clients c.args.client c.deliver.new.client; pool = a.pool } in
    let lt : c.args.client < length a.clients.items = omega (arith, c.if-client-len.false, c.len.ensures, a.clients.ok.0) in
    hear_done c.args.profile.now a b w c.args.client c.args.packet c.in_ok-frame.frame c.index_mut.result.now c.deliver.new.client c.in_ok-told.told c.requires st c.in_ok-frame.ensures
    (client_at a.clients.items c.args.client c.index_mut.result.now lt c.index_mut.ensures.value) c.in_ok-told.ensures.client c.in_ok-told.ensures.told refl refl refl
