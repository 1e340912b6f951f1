use Rattle.update_sessions.proofs.Answered.{sends_reply}
use Rattle.update_sessions.proofs.answering.answer.Goals as goal

pub returns : goal.returns
returns c = sends_reply c.args.server.now c.args.number c.args.request.now c.in_ok-answer.field-0 c.state-state.ensures.sound c.requires c.in_ok-answer.ensures
