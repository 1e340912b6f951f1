use Rattle.std.proofs.Common.{Err, subst, sym}
use Rattle.std.proofs.lemmas.Result.{err_from_is_err_and}
use Rattle.box_events.specs.declared.replies.Frame.{Frame}
use Rattle.update_sessions.specs.inner.Steps.{HearsFrame}
use Rattle.update_sessions.proofs.ClientSteps.{refused_reply}
use Rattle.update_sessions.proofs.asking.hear_frame.Goals as goal

pub returns-in_err-_told-in-Reply : goal.returns-in_err-_told-in-Reply
returns-in_err-_told-in-Reply c =
    let p = err_from_is_err_and c.from_residual-in_err-_told-in-Reply.result c.from_residual-in_err-_told-in-Reply.ensures.1 in
    let fault = c.in_err-_told-in-Reply.field-0.0 in
    rw (p.1, p.2) (subst (λ (f : Frame). HearsFrame c.args.client.now f (Err fault) c.hear_reply.new.self) (sym c.in-Reply.is)
    (refused_reply c.args.client.now c.hear_reply.new.self c.in-Reply.number c.in-Reply.reply fault c.in_err-_told-in-Reply.ensures.step))
