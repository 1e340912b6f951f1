use Rattle.std.proofs.Common.{Ok}
use Rattle.tl_types.proofs.Views.{view-Absent}
use Rattle.tl_decode.specs.declared.stack.StackFrame.TheVariants as frame
use Rattle.tl_decode.specs.declared.stack.Next.TheVariants as next
use Rattle.tl_decode.specs.declared.stack.Advance.TheVariants as step
use Rattle.tl_decode.specs.inner.Frames.{StepsFrom}
use Rattle.tl_decode.proofs.InPlace.{steps_then}
use Rattle.tl_decode.proofs.parts.field.Goals as goal

pub returns-in-End : goal.returns-in-End
returns-in-End c = (rw c.in-End.is at c.coming.ensures) c.args.frames.now.items c.requires.frames _ c.record_of.ensures

pub returns-in_ok-push-in-Absent : goal.returns-in_ok-push-in-Absent
returns-in_ok-push-in-Absent c = (rw c.in-Absent.is at c.coming.ensures) c.args.frames.now.items c.requires.frames _ view-Absent c.push.new.self c.in_ok-push-in-Absent.ensures.items

pub open-requires-clause-frames : goal.open-requires-clause-frames
open-requires-clause-frames c = rw c.in_ok-push-in-Field.ensures.items ((rw c.in-Field.is at c.coming.ensures) c.args.frames.now.items c.requires.frames).0.frames

pub open-requires-clause-within : goal.open-requires-clause-within
open-requires-clause-within c = ((rw c.in-Field.is at c.coming.ensures) c.args.frames.now.items c.requires.frames).0.is_well

pub returns-in_ok-push-in-Field : goal.returns-in_ok-push-in-Field
returns-in_ok-push-in-Field c =
    let fs = c.args.frames.now.items in
    let part = next.Part (frame.Record c.args.of c.args.member c.args.fields) in
    let opens : StepsFrom c.args.plan.now fs part c.push-in-Field.new.self.items (Ok (step.Goes (next.Open c.in-Field.next))) = rw c.in_ok-push-in-Field.ensures.items ((rw c.in-Field.is at c.coming.ensures) fs c.requires.frames) in
    steps_then c.args.plan.now fs _ _ part (next.Open c.in-Field.next) _ opens c.open.ensures
