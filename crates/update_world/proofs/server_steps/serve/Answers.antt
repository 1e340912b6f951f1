use Rattle.std.proofs.Common.{refl}
use Rattle.std.proofs.lemmas.Result.{err_from_is_err_and}
use Rattle.update_world.specs.declared.parts.WorldParts.{WorldParts}
use Rattle.update_world.proofs.Serving.{call_answered, reply_short, serve_done, serve_refused, serve_unsent}
use Rattle.update_world.proofs.server_steps.serve.Goals as goal

pub returns-in_err-asked-clause-step : goal.returns-in_err-asked-clause-step
returns-in_err-asked-clause-step c = λ w st.
    let p = err_from_is_err_and c.from_residual.result c.from_residual.ensures.1 in
    rw (p.1, p.2) (serve_refused c.args.profile.now c.args.parts.now c.args.parts.now w c.args.packet c.in_err-asked.field-0.0 st c.in_err-asked.ensures refl)

pub answer-requires : goal.answer-requires
answer-requires c = call_answered c.args.profile.now c.args.parts.now c.args.packet c.in_ok-asked.asked c.requires c.in_ok-asked.ensures

pub send_frame-requires-clause-short : goal.send_frame-requires-clause-short
send_frame-requires-clause-short c = reply_short c.args.parts.now.server c.in_ok-asked.asked.call.number c.in_ok-asked.asked c.in_ok-reply.reply c.requires.sound c.in_ok-reply.ensures

pub returns-in_err-packet-clause-step : goal.returns-in_err-packet-clause-step
returns-in_err-packet-clause-step c = λ w st.
    let a : WorldParts = c.args.parts.now in
    let b : WorldParts = record { server = a.server; clients = a.clients; pool = c.send_frame.new.pool } in
    let p = err_from_is_err_and c.from_residual-in_err-packet.result c.from_residual-in_err-packet.ensures.1 in
    rw (p.1, p.2) (serve_unsent c.args.profile.now a b w c.args.packet c.in_ok-asked.asked c.in_ok-reply.reply c.send_frame.new.pool c.in_err-packet.field-0.0 c.requires st c.in_ok-asked.ensures c.in_ok-reply.ensures c.in_err-packet.ensures)

pub returns-clause-step : goal.returns-clause-step
returns-clause-step c = λ w st.
    let a : WorldParts = c.args.parts.now in
    let b : WorldParts = record { server = a.server; clients = a.clients; pool = c.send_frame.new.pool } in
    serve_done c.args.profile.now a b w c.args.packet c.in_ok-packet.packet c.in_ok-asked.asked c.in_ok-reply.reply c.requires st c.in_ok-asked.ensures c.in_ok-reply.ensures c.in_ok-packet.ensures refl refl
