use Rattle.std.proofs.Common.{refl}
use Rattle.std.proofs.lemmas.Result.{err_from_is_err_and}
use Rattle.update_world.specs.declared.parts.WorldParts.{WorldParts}
use Rattle.update_world.proofs.Serving.{warning_done, warning_unsent}
use Rattle.update_world.proofs.server_steps.too_long.Goals as goal

pub returns-in_err-packet-clause-step : goal.returns-in_err-packet-clause-step
returns-in_err-packet-clause-step c = λ w st.
    let a : WorldParts = c.args.parts.now in
    let b : WorldParts = record { server = a.server; clients = a.clients; pool = c.send_frame.new.pool } in
    let p = err_from_is_err_and c.from_residual.result c.from_residual.ensures.1 in
    rw (p.1, p.2) (warning_unsent c.args.profile.now a b w c.send_frame.new.pool c.in_err-packet.field-0.0 c.requires st c.in_err-packet.ensures)

pub returns-clause-step : goal.returns-clause-step
returns-clause-step c = λ w st.
    let a : WorldParts = c.args.parts.now in
    let b : WorldParts = record { server = a.server; clients = a.clients; pool = c.send_frame.new.pool } in
    warning_done c.args.profile.now a b w c.in_ok-packet.packet c.requires st c.in_ok-packet.ensures refl refl
