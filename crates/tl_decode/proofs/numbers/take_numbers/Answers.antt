use Rattle.std.proofs.Common.{◌≡◌, List, [], ◌-◌, vec_len, sym, ◌∙◌, arith}
use Rattle.std.proofs.lemmas.Bool.{eqb-true}
use Rattle.std.proofs.lemmas.List.{nil_from_length}
use Rattle.std.specs.Vec.{with_item}
use Rattle.tl_decode.specs.declared.stack.StackFrame.{StackFrame}
use Rattle.tl_decode.specs.inner.Needs.{MovesOn}
use Rattle.tl_decode.proofs.InPlace.{last_becomes, last_well}
use Rattle.tl_decode.proofs.ListNumbers.{less_moved, takes_moved}
use Rattle.tl_decode.proofs.numbers.take_numbers.Goals as goal

pub add_to-requires : goal.add_to-requires
add_to-requires c =
    let fs = c.args.reading.now.frames in
    last_well c.args.plan.now fs.items fs.len c.in-Some.top.now (omega (arith, fs.ok.0)) (omega (arith, c.in-Some.ensures.item.3.0, fs.ok.0)) c.in-Some.ensures.value c.requires.frames

pub returns-in_ok-used-in-Some-clause-takes : goal.returns-in_ok-used-in-Some-clause-takes
returns-in_ok-used-in-Some-clause-takes c =
    let old = c.args.reading.now in
    let fs = old.frames in
    let zero = eqb-true _ _ (sym c.is_empty.ensures ∙ c.if-not-is_empty.false) in
    let none : old.held.items ≡ [] = nil_from_length old.held.items (omega (arith, zero, old.held.ok.0)) in
    let moves = last_becomes c.args.plan.now fs.items fs.len c.in-Some.top.now (omega (arith, fs.ok.0)) (omega (arith, c.in-Some.ensures.item.3.0, fs.ok.0)) c.in-Some.ensures.value c.requires.frames (λ (a b : List StackFrame). MovesOn c.args.plan.now old.wanted c.args.next.now a b c.in_ok-used-in-Some.used) c.add_to.new.top c.in_ok-used-in-Some.ensures in
    takes_moved c.args.plan.now old (with_item fs (vec_len fs - 1) c.add_to.new.top) c.args.next.now c.in_ok-used-in-Some.used c.args.at.now c.saturating_add.result c.requires none moves (omega arith) c.saturating_add.ensures

pub returns-in_ok-used-in-Some-clause-less : goal.returns-in_ok-used-in-Some-clause-less
returns-in_ok-used-in-Some-clause-less c =
    let old = c.args.reading.now in
    let fs = old.frames in
    let moves = last_becomes c.args.plan.now fs.items fs.len c.in-Some.top.now (omega (arith, fs.ok.0)) (omega (arith, c.in-Some.ensures.item.3.0, fs.ok.0)) c.in-Some.ensures.value c.requires.frames (λ (a b : List StackFrame). MovesOn c.args.plan.now old.wanted c.args.next.now a b c.in_ok-used-in-Some.used) c.add_to.new.top c.in_ok-used-in-Some.ensures in
    less_moved c.args.plan.now old (with_item fs (vec_len fs - 1) c.add_to.new.top) c.args.next.now c.in_ok-used-in-Some.used moves
