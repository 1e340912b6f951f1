use Rattle.std.proofs.Common.{◌∙◌}
use Rattle.update_sessions.proofs.Answered.{sends_refusal}
use Rattle.update_sessions.proofs.answering.refusal.Goals as goal

pub returns : goal.returns
returns c = sends_refusal c.args.number c.args.fault c.in_ok-from_slice.field-0 (c.in_ok-from_slice.ensures ∙ c.as_bytes.ensures.value ∙ c.name.ensures)
