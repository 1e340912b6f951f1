use Rattle.std.proofs.Common.{refl, ap}
use Rattle.box_events.specs.declared.positions.State.{State}
use Rattle.update_world.specs.declared.parts.WorldParts.{WorldParts}
use Rattle.update_world.proofs.Posts.{date_done}
use Rattle.update_world.proofs.server_steps.date.Goals as goal

pub returns-clause-step : goal.returns-clause-step
returns-clause-step c = λ p steady w st.
    let a : WorldParts = c.args.parts.now in
    let b : WorldParts = record { server = c.set_date.new.self; clients = a.clients; pool = a.pool } in
    date_done p steady.profile a b w c.args.date c.state-date.result.date st steady.most c.set_date.ensures refl refl (ap (λ (s : State). s.date) c.state-date.ensures.value)
