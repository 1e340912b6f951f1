use Rattle.std.proofs.Common.{arith}
use Rattle.std.proofs.lemmas.List.{nil_from_length}
use Rattle.tl_decode.specs.declared.stack.Next.TheVariants as next
use Rattle.tl_decode.proofs.InPlace.{last_opens, last_taken, last_well, steps_then}
use Rattle.tl_decode.proofs.PartSteps.{closes_all}
use Rattle.tl_decode.proofs.machine.close.Goals as goal

pub add-requires : goal.add-requires
add-requires c =
    let fs = c.args.frames.now in
    last_well c.args.plan.now fs.items fs.len c.in-Some.top.now (omega (arith, fs.ok.0)) (omega (arith, c.in-Some.ensures.item.3.0, fs.ok.0)) c.in-Some.ensures.value c.requires.frames

pub returns-in-None : goal.returns-in-None
returns-in-None c =
    let fs = c.args.frames.now in
    let none = nil_from_length fs.items (omega (arith, c.in-None.ensures.item.3)) in
    closes_all c.args.plan.now fs.items fs.items c.args.value none none

pub open-requires-clause-frames : goal.open-requires-clause-frames
open-requires-clause-frames c =
    let fs = c.args.frames.now in
    (last_opens c.args.plan.now fs.items fs.len c.in-Some.top.now (omega (arith, fs.ok.0)) (omega (arith, c.in-Some.ensures.item.3.0, fs.ok.0)) c.in-Some.ensures.value c.requires.frames c.add.new.top c.args.value c.in-Some-2.of
    (rw c.in-Some-2.is at c.in_ok-of-in-Some.ensures)).0.frames

pub open-requires-clause-within : goal.open-requires-clause-within
open-requires-clause-within c =
    let fs = c.args.frames.now in
    (last_opens c.args.plan.now fs.items fs.len c.in-Some.top.now (omega (arith, fs.ok.0)) (omega (arith, c.in-Some.ensures.item.3.0, fs.ok.0)) c.in-Some.ensures.value c.requires.frames c.add.new.top c.args.value c.in-Some-2.of
    (rw c.in-Some-2.is at c.in_ok-of-in-Some.ensures)).0.is_well

pub returns-in-Some-2 : goal.returns-in-Some-2
returns-in-Some-2 c =
    let fs = c.args.frames.now in
    let opens = last_opens c.args.plan.now fs.items fs.len c.in-Some.top.now (omega (arith, fs.ok.0)) (omega (arith, c.in-Some.ensures.item.3.0, fs.ok.0)) c.in-Some.ensures.value c.requires.frames c.add.new.top c.args.value c.in-Some-2.of
    (rw c.in-Some-2.is at c.in_ok-of-in-Some.ensures) in
    steps_then c.args.plan.now fs.items _ _ (next.Close c.args.value) (next.Open c.in-Some-2.of) _ opens c.open.ensures

pub returns-in-None-2 : goal.returns-in-None-2
returns-in-None-2 c =
    let fs = c.args.frames.now in
    last_taken c.args.plan.now fs.items fs.len c.in-Some.top.now (omega (arith, fs.ok.0)) (omega (arith, c.in-Some.ensures.item.3.0, fs.ok.0)) c.in-Some.ensures.value c.requires.frames c.add.new.top c.take_last.result c.args.value c.take_last.new.self.items
    (rw c.in-None-2.is at c.in_ok-of-in-Some.ensures) c.take_last.ensures.items
