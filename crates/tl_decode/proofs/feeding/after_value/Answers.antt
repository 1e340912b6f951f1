use Rattle.std.proofs.Common.{List, arith}
use Rattle.std.proofs.lemmas.List.{nil_from_length}
use Rattle.tl_decode.specs.declared.stack.StackFrame.{StackFrame}
use Rattle.tl_decode.specs.inner.Frames.{GoesOn}
use Rattle.tl_decode.proofs.InPlace.{last_becomes, last_well}
use Rattle.tl_decode.proofs.PartSteps.{closes_all}
use Rattle.tl_decode.proofs.feeding.after_value.Goals as goal

pub close_part-requires : goal.close_part-requires
close_part-requires c =
    let fs = c.args.frames.now in
    last_well c.args.plan.now fs.items fs.len c.in-Some.top.now (omega (arith, fs.ok.0)) (omega (arith, c.in-Some.ensures.item.3.0, fs.ok.0)) c.in-Some.ensures.value c.requires

pub returns-in-None : goal.returns-in-None
returns-in-None c =
    let fs = c.args.frames.now in
    let none = nil_from_length fs.items (omega (arith, c.in-None.ensures.item.3)) in
    closes_all c.args.plan.now fs.items fs.items c.args.value none none

pub found_after-requires-clause-goes : goal.found_after-requires-clause-goes
found_after-requires-clause-goes c =
    let fs = c.args.frames.now in
    let p = c.args.plan.now in
    let o = c.in_ok-onward-in-Some.onward in
    (fs.items, c.args.value, last_becomes p fs.items fs.len c.in-Some.top.now (omega (arith, fs.ok.0)) (omega (arith, c.in-Some.ensures.item.3.0, fs.ok.0)) c.in-Some.ensures.value c.requires (λ (a b : List StackFrame). GoesOn p a c.args.value b o) c.close_part.new.top c.in_ok-onward-in-Some.ensures)

pub returns-in_ok-onward-in-Some : goal.returns-in_ok-onward-in-Some
returns-in_ok-onward-in-Some c =
    let fs = c.args.frames.now in
    let p = c.args.plan.now in
    let o = c.in_ok-onward-in-Some.onward in
    c.found_after.ensures fs.items c.args.value (last_becomes p fs.items fs.len c.in-Some.top.now (omega (arith, fs.ok.0)) (omega (arith, c.in-Some.ensures.item.3.0, fs.ok.0)) c.in-Some.ensures.value c.requires (λ (a b : List StackFrame). GoesOn p a c.args.value b o) c.close_part.new.top c.in_ok-onward-in-Some.ensures)
