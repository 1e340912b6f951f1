use Rattle.tl_decode.specs.inner.Frames.{found_work, item_view, views}
use Rattle.tl_decode.specs.declared.stack.Found.TheVariants as found
use Rattle.tl_decode.specs.declared.stack.Next.TheVariants as next
use Rattle.tl_decode.proofs.PieceSteps.{after_goes, after_stops}
use Rattle.tl_decode.proofs.feeding.after_item.Goals as goal

pub returns-in-Ok-clause-goes : goal.returns-in-Ok-clause-goes
returns-in-Ok-clause-goes c =
    let vs = views c.args.plan.now c.args.frames.now.items in
    after_goes c.args.plan.now vs c.args.wanted c.args.at.place c.args.at.end 0 (item_view c.args.item) c.in-Ok.next c.settle_at.new.frames.items c.settle_at.result c.in-Ok.ensures c.settle_at.ensures

pub returns-in-Ok-Close-clause-goes : goal.returns-in-Ok-Close-clause-goes
returns-in-Ok-Close-clause-goes c =
    let vs = views c.args.plan.now c.args.frames.now.items in
    after_goes c.args.plan.now vs c.args.wanted c.args.at.place c.args.at.end 0 (item_view c.args.item) (next.Close c.in-Ok-Close.value) c.after_value.new.frames.items c.after_value.result (rw c.in-Ok-Close.field-0-is at c.in-Ok-Close.ensures) c.after_value.ensures

pub returns-in-Err-clause-goes : goal.returns-in-Err-clause-goes
returns-in-Err-clause-goes c =
    let vs = views c.args.plan.now c.args.frames.now.items in
    after_stops c.args.plan.now vs c.args.wanted c.args.at.place c.args.at.end (found_work c.args.plan.now vs (found.Wants c.args.wanted)) (item_view c.args.item) c.in-Err.stop c.stopped.result c.args.frames.now.items c.in-Err.ensures c.stopped.ensures
