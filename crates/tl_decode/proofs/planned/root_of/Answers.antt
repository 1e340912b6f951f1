use Rattle.std.proofs.lemmas.Result.{err_from_is_err_and}
use Rattle.tl_decode.specs.declared.stack.Next.TheVariants as next
use Rattle.tl_decode.specs.inner.Frames.{next_work, views}
use Rattle.tl_decode.proofs.Onward.{begins, begins_not}
use Rattle.tl_decode.proofs.planned.root_of.Goals as goal

pub returns-in_err-found-clause-read : goal.returns-in_err-found-clause-read
returns-in_err-found-clause-read g c =
    let p = err_from_is_err_and c.from_residual.result c.from_residual.ensures.1 in
    rw (p.1, p.2)
    (begins_not c.args.plan.now c.args.root c.new-frames.result.items c.settle_at.new.frames.items _ c.args.at.now c.args.at.now (next_work c.args.plan.now (views c.args.plan.now c.new-frames.result.items) (next.Open c.args.root)) _ c.new-frames.ensures.items c.in_err-found.ensures)

pub returns-clause-read : goal.returns-clause-read
returns-clause-read g c =
    begins c.args.plan.now c.args.root c.new-frames.result.items c.settle_at.new.frames.items _ _ c.args.at.now c.finish.new.at (next_work c.args.plan.now (views c.args.plan.now c.new-frames.result.items) (next.Open c.args.root)) c.in_ok-found.found c.finish.result c.new-frames.ensures.items c.in_ok-found.ensures c.finish.ensures.read
