use Rattle.tl_decode.specs.inner.Frames.{next_at, next_work, views}
use Rattle.tl_decode.proofs.Onward.{settles_stop}
use Rattle.tl_decode.proofs.planned.settle_at.Goals as goal

pub returns-in-Err : goal.returns-in-Err
returns-in-Err c =
    let vs = views c.args.plan.now c.args.frames.now.items in
    settles_stop c.args.plan.now c.settle.new.frames.items (next_at c.args.plan.now vs c.args.next) (next_work c.args.plan.now vs c.args.next) c.args.place c.in-Err.stop c.stopped.result c.in-Err.ensures c.stopped.ensures
