use Rattle.std.proofs.lemmas.Result.{err_from_is_err_and}
use Rattle.tl_decode.specs.inner.Frames.{next_at, next_work, views}
use Rattle.tl_decode.proofs.Onward.{settles_err}
use Rattle.tl_decode.proofs.machine.settle.Goals as goal

pub returns-in_err-later : goal.returns-in_err-later
returns-in_err-later c =
    let p = err_from_is_err_and c.from_residual.result c.from_residual.ensures.1 in
    let plan = c.args.plan.now in
    let vs = views plan c.args.frames.now.items in
    let ws = views plan c.steps.frames.items in
    rw (p.1, p.2) (settles_err plan (next_at plan vs c.args.first) (next_at plan ws c.steps.next) (next_work plan vs c.args.first) (next_work plan ws c.steps.next) c.step.new.frames.items _ c.steps.invariant.same c.in_err-later.ensures)
