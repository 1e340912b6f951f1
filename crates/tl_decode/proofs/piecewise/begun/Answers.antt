use Rattle.std.proofs.Common.{refl}
use Rattle.tl_decode.specs.declared.stack.Next.TheVariants as next
use Rattle.tl_decode.specs.inner.Frames.{next_work, views}
use Rattle.tl_decode.proofs.FedBytes.{begun_done, begun_reading, begun_stopped}
use Rattle.tl_decode.proofs.piecewise.begun.Goals as goal

pub returns-in-Ok-Wants : goal.returns-in-Ok-Wants
returns-in-Ok-Wants c =
    let p = c.args.plan.now in
    let x = c.in-Ok-Wants in
    let none = c.new-frames.result.items in
    begun_reading p c.args.of c.settle_at.new.frames.items none (next_work p (views p none) (next.Open c.args.of)) c.new-frames.ensures.items (record { frames = c.settle_at.new.frames; wanted = x.wanted; held = c.new.result }) refl c.new.ensures.items (rw x.field-0-is at x.ensures)

pub returns-in-Ok-Done : goal.returns-in-Ok-Done
returns-in-Ok-Done c =
    let p = c.args.plan.now in
    let x = c.in-Ok-Done in
    let none = c.new-frames.result.items in
    begun_done p c.args.of c.settle_at.new.frames.items none (next_work p (views p none) (next.Open c.args.of)) c.new-frames.ensures.items x.value (rw x.field-0-is at x.ensures)

pub returns-in-Err : goal.returns-in-Err
returns-in-Err c =
    let p = c.args.plan.now in
    let none = c.new-frames.result.items in
    begun_stopped p c.args.of c.settle_at.new.frames.items none (next_work p (views p none) (next.Open c.args.of)) c.new-frames.ensures.items c.in-Err.fault c.in-Err.ensures
