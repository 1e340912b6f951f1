use Rattle.std.proofs.Common.{◌≡◌, ap, refl, rules, w64, to_z, of_z}
use Rattle.std.proofs.lemmas.Int.{to_z-of_z}
use Rattle.std.proofs.lemmas.Result.{err_from_is_err_and}
use Rattle.box_events.specs.declared.positions.State.{State}
use Rattle.box_events.specs.declared.updates.Push.{Push as SomePush}
use Rattle.box_events.specs.declared.updates.Push.TheVariants.{Container}
use Rattle.box_world.specs.Worlds.{channel_too_long}
use Rattle.update_world.specs.declared.parts.WorldParts.{WorldParts}
use Rattle.update_world.proofs.Serving.{channel_done, channel_short, container_is, channel_unsent}
use Rattle.update_world.proofs.server_steps.channel_too_long.Goals as goal

pub send_frame-requires-clause-short : goal.send_frame-requires-clause-short
send_frame-requires-clause-short c =
    let a : WorldParts = c.args.parts.now in
    let q : SomePush = Container c.push.new.self c.state.result.date 0 0 in
    let id : to_z w64 (of_z w64 c.args.channel_id) ≡ c.args.channel_id = to_z-of_z w64 c.args.channel_id (search rules) in
    let is : q ≡ channel_too_long a.server c.args.channel_id =
    container_is a.server c.args.channel_id (to_z w64 (of_z w64 c.args.channel_id)) c.new-updates.result c.push.new.self c.state.result.date c.new-updates.ensures c.in_ok-push.ensures.ok id (ap (λ (s : State). s.date) c.state.ensures.value) in
    channel_short a.server c.args.channel_id q is

pub returns-in_err-packet-clause-step : goal.returns-in_err-packet-clause-step
returns-in_err-packet-clause-step c = λ w st.
    let a : WorldParts = c.args.parts.now in
    let q : SomePush = Container c.push.new.self c.state.result.date 0 0 in
    let id : to_z w64 (of_z w64 c.args.channel_id) ≡ c.args.channel_id = to_z-of_z w64 c.args.channel_id (search rules) in
    let is : q ≡ channel_too_long a.server c.args.channel_id =
    container_is a.server c.args.channel_id (to_z w64 (of_z w64 c.args.channel_id)) c.new-updates.result c.push.new.self c.state.result.date c.new-updates.ensures c.in_ok-push.ensures.ok id (ap (λ (s : State). s.date) c.state.ensures.value) in
    let b : WorldParts = record { server = a.server; clients = a.clients; pool = c.send_frame.new.pool } in
    let p = err_from_is_err_and c.from_residual-in_err-packet.result c.from_residual-in_err-packet.ensures.1 in
    rw (p.1, p.2) (channel_unsent c.args.profile.now a b w c.args.channel_id q c.send_frame.new.pool c.in_err-packet.field-0.0 c.requires st is c.in_err-packet.ensures)

pub returns-clause-step : goal.returns-clause-step
returns-clause-step c = λ w st.
    let a : WorldParts = c.args.parts.now in
    let q : SomePush = Container c.push.new.self c.state.result.date 0 0 in
    let id : to_z w64 (of_z w64 c.args.channel_id) ≡ c.args.channel_id = to_z-of_z w64 c.args.channel_id (search rules) in
    let is : q ≡ channel_too_long a.server c.args.channel_id =
    container_is a.server c.args.channel_id (to_z w64 (of_z w64 c.args.channel_id)) c.new-updates.result c.push.new.self c.state.result.date c.new-updates.ensures c.in_ok-push.ensures.ok id (ap (λ (s : State). s.date) c.state.ensures.value) in
    let b : WorldParts = record { server = a.server; clients = a.clients; pool = c.send_frame.new.pool } in
    channel_done c.args.profile.now a b w c.args.channel_id q c.in_ok-packet.packet c.requires st is c.in_ok-packet.ensures refl refl
