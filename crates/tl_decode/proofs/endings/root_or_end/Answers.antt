use Rattle.tl_decode.specs.declared.stack.Next.TheVariants as next
use Rattle.tl_decode.specs.inner.Frames.{next_work, views}
use Rattle.tl_decode.proofs.RootsOrEnds.{root_not_done, root_refused, root_wants}
use Rattle.tl_decode.proofs.endings.root_or_end.Goals as goal

pub returns-in-Ok-Wants-clause-read : goal.returns-in-Ok-Wants-clause-read
returns-in-Ok-Wants-clause-read g c =
    root_wants c.args.plan.now c.args.root c.new-frames.result.items c.settle_at.new.frames.items _ _ c.args.at.now c.first_of.new.at (next_work c.args.plan.now (views c.args.plan.now c.new-frames.result.items) (next.Open c.args.root)) c.in-Ok-Wants.wanted c.first_of.result c.new-frames.ensures.items
    (rw c.in-Ok-Wants.field-0-is at c.in-Ok-Wants.ensures) c.first_of.ensures.read

pub unreachable-requires : goal.unreachable-requires
unreachable-requires g c =
    root_not_done c.args.plan.now c.args.root c.requires.sound c.requires.four c.requires.within c.new-frames.result.items c.settle_at.new.frames.items c.args.at.now (next_work c.args.plan.now (views c.args.plan.now c.new-frames.result.items) (next.Open c.args.root)) c.in-Ok-Done.field-0 c.in-Ok-Done.field-0-0 c.new-frames.ensures.items
    c.in-Ok-Done.field-0-is c.in-Ok-Done.ensures

pub returns-clause-read : goal.returns-clause-read
returns-clause-read g c =
    root_refused c.args.plan.now c.args.root c.new-frames.result.items c.settle_at.new.frames.items _ _ c.args.at.now (next_work c.args.plan.now (views c.args.plan.now c.new-frames.result.items) (next.Open c.args.root)) c.in-Err.fault c.refused_or_end.result c.new-frames.ensures.items c.in-Err.ensures c.refused_or_end.ensures.end
