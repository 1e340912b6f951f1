use Rattle.std.proofs.Common.{arith, refl, ◌<◌, length}
use Rattle.std.specs.Vec.{with_item}
use Rattle.box_events.specs.declared.steps.Step.TheVariants as step
use Rattle.update_world.specs.declared.parts.WorldParts.{WorldParts}
use Rattle.update_world.proofs.ClientSteps.{client_at, restart_done}
use Rattle.update_world.proofs.Exits.{no_such_client}
use Rattle.update_world.proofs.client_steps.restart.Goals as goal

pub returns-then-client-len-clause-step : goal.returns-then-client-len-clause-step
returns-then-client-len-clause-step c = λ p steady w st. no_such_client p c.args.parts.now (step.Restart c.args.client) w c.args.client st refl (omega (arith, c.if-client-len.true, c.len.ensures, c.args.parts.now.clients.ok.0))

pub returns-clause-step : goal.returns-clause-step
returns-clause-step c = λ p steady w st.
    let a : WorldParts = c.args.parts.now in
    let b : WorldParts = record { server = a.server; clients = with_item a.clients c.args.client c.restart.new.self; pool = a.pool } in
    let lt : c.args.client < length a.clients.items = omega (arith, c.if-client-len.false, c.len.ensures, a.clients.ok.0) in
    restart_done p a b w c.args.client c.index_mut.result.now c.restart.new.self steady st lt (client_at a.clients.items c.args.client c.index_mut.result.now lt c.index_mut.ensures.value) c.restart.ensures.step refl refl refl
