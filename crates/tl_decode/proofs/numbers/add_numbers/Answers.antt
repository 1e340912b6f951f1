use Rattle.std.proofs.Common.{◌≡◌, ℕ, ◌+◌, ◌-◌, ◌*◌, ◌≤◌, List, length, take, drop, ap, ◌∙◌, subst, arith}
use Rattle.std.proofs.lemmas.List.{length-drop, take_all}
use Rattle.std.specs.Int.{w32, from_le_bytes}
use Rattle.tl_decode.specs.declared.stack.StackFrame.TheVariants as frame
use Rattle.tl_decode.specs.inner.Needs.{AddsNumbers}
use Rattle.tl_decode.proofs.ListNumbers.{elements_move, numbers_more}
use Rattle.tl_decode.proofs.numbers.add_numbers.Goals as goal

pub loop-n-init : goal.loop-n-init
loop-n-init c = record {
  few = omega arith;
  room = omega (arith, c.in_ok-reserve.ensures.ok);
  adds = λ p j within opens.
      let all : c.args.left.now ≡ c.args.left.now - 0 = omega arith in
      subst (λ (left : ℕ). AddsNumbers p c.args.wanted c.args.next.now (frame.List j c.args.left.now c.args.items.now) (frame.List j left c.reserve.new.self) 0) all (elements_move p c.args.wanted j within opens c.args.left.now c.args.items.now c.reserve.new.self c.args.next.now c.reserve.ensures.items);
}

pub loop-n-preserved : goal.loop-n-preserved
loop-n-preserved c =
    let i = c.loop-n.invariant in
    let n = c.loop-n.n in
    let next = c.args.next.now in
    let there : 4 * n + 4 ≤ length next = omega (arith, c.min-count.ensures, c.loop-n-test.true) in
    let rest = take_all (length next - 4 * n) (drop (4 * n) next) (omega (arith, length-drop (4 * n) next)) in
    let word = c.word_in.ensures ∙ ap (λ (z : List ℕ). from_le_bytes w32 (take 4 z)) rest in
    record {
      few = omega (arith, c.loop-n-test.true);
      room = omega (arith, i.room, c.push_reserved.ensures.len, c.push_reserved.ensures.capacity, c.loop-n-test.true);
      adds = λ p j within opens.
          numbers_more p c.args.wanted j within opens c.args.left.now n c.args.items.now c.loop-n.items c.push_reserved.new.self c.number_of.result c.word_in.result next c.requires (omega (arith, c.min-count.ensures, c.loop-n-test.true)) there word c.push_reserved.ensures.items (c.number_of.ensures p) (i.adds p j within opens);
    }

pub returns : goal.returns
returns c = λ p j within opens.
    let count : c.loop-n.n ≡ c.min-count.result = omega (arith, c.loop-n.invariant.few, c.loop-n-test.false) in
    subst (λ (n : ℕ). AddsNumbers p c.args.wanted c.args.next.now (frame.List j c.args.left.now c.args.items.now) (frame.List j (c.args.left.now - n) c.loop-n.items) (4 * n)) count (c.loop-n.invariant.adds p j within opens)
