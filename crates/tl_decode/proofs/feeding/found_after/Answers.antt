use Rattle.tl_decode.specs.declared.stack.Next.TheVariants as next
use Rattle.tl_decode.specs.inner.Frames.{next_at, next_work, views}
use Rattle.tl_decode.proofs.Onward.{settles_stop}
use Rattle.tl_decode.proofs.feeding.found_after.Goals as goal

pub returns-in-Err : goal.returns-in-Err
returns-in-Err c = λ old v g.
    let p = c.args.plan.now in
    settles_stop p c.go_on.new.frames.items (next_at p (views p old) (next.Close v)) (next_work p (views p old) (next.Close v)) c.args.place c.in-Err.stop c.stopped.result (c.in-Err.ensures old v g) c.stopped.ensures
