use Rattle.std.proofs.Common.{◌-◌, arith}
use Rattle.tl_types.proofs.Views.{view-List}
use Rattle.tl_decode.specs.declared.stack.StackFrame.TheVariants as frame
use Rattle.tl_decode.specs.declared.stack.Next.TheVariants as next
use Rattle.tl_decode.proofs.InPlace.{steps_then}
use Rattle.tl_decode.proofs.PartSteps.{list_closes, list_opens}
use Rattle.tl_decode.proofs.parts.element.Goals as goal

pub returns-then-left-eq0 : goal.returns-then-left-eq0
returns-then-left-eq0 c = list_closes c.args.plan.now c.args.frames.now.items c.requires.frames c.args.item c.args.left c.args.items _ c.if-left-eq0.true (view-List c.args.items)

pub open-requires-clause-frames : goal.open-requires-clause-frames
open-requires-clause-frames c =
    (list_opens c.args.plan.now c.args.frames.now.items c.requires.frames c.args.item c.args.left _ c.args.items _ (omega arith) c.in_ok-push.ensures.items c.requires.top).0.frames

pub returns : goal.returns
returns c =
    let opens = list_opens c.args.plan.now c.args.frames.now.items c.requires.frames c.args.item c.args.left (c.args.left - 1) c.args.items _ (omega (arith, c.if-left-eq0.false)) c.in_ok-push.ensures.items c.requires.top in
    steps_then c.args.plan.now c.args.frames.now.items _ _ (next.Part (frame.List c.args.item c.args.left c.args.items)) (next.Open c.args.item) _ opens c.open.ensures
