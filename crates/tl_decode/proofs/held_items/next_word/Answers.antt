use Rattle.std.proofs.Common.{◌≡◌, [], refl, sym, ◌∙◌}
use Rattle.std.proofs.lemmas.Bool.{eqb-true}
use Rattle.std.proofs.lemmas.List.{nil_from_length}
use Rattle.tl_decode.specs.inner.Frames.{item_at}
use Rattle.tl_decode.proofs.HeldBytes.{word_next}
use Rattle.tl_decode.proofs.held_items.next_word.Goals as goal

pub returns-in-Int : goal.returns-in-Int
unfolding item_at
returns-in-Int c =
    let none : c.args.held.now ≡ [] = nil_from_length c.args.held.now (eqb-true _ _ (sym c.is_empty.ensures ∙ c.if-not-is_empty.false)) in
    word_next c.args.wanted c.args.held.now c.args.next.now c.word_in.result (λ s. rw c.in-Int.is refl) none c.if-next-lt4.false c.word_in.ensures

pub returns-in-Nat : goal.returns-in-Nat
unfolding item_at
returns-in-Nat c =
    let none : c.args.held.now ≡ [] = nil_from_length c.args.held.now (eqb-true _ _ (sym c.is_empty.ensures ∙ c.if-not-is_empty.false)) in
    word_next c.args.wanted c.args.held.now c.args.next.now c.word_in-in-Nat.result (λ s. rw c.in-Nat.is refl) none c.if-next-lt4.false c.word_in-in-Nat.ensures

pub returns-in-Number : goal.returns-in-Number
unfolding item_at
returns-in-Number c =
    let none : c.args.held.now ≡ [] = nil_from_length c.args.held.now (eqb-true _ _ (sym c.is_empty.ensures ∙ c.if-not-is_empty.false)) in
    word_next c.args.wanted c.args.held.now c.args.next.now c.word_in-in-Number.result (λ s. rw c.in-Number.is refl) none c.if-next-lt4.false c.word_in-in-Number.ensures

pub returns-in-ListNumber : goal.returns-in-ListNumber
unfolding item_at
returns-in-ListNumber c =
    let none : c.args.held.now ≡ [] = nil_from_length c.args.held.now (eqb-true _ _ (sym c.is_empty.ensures ∙ c.if-not-is_empty.false)) in
    word_next c.args.wanted c.args.held.now c.args.next.now c.word_in-in-ListNumber.result (λ s. rw c.in-ListNumber.is refl) none c.if-next-lt4.false c.word_in-in-ListNumber.ensures

pub returns-in-Count : goal.returns-in-Count
unfolding item_at
returns-in-Count c =
    let none : c.args.held.now ≡ [] = nil_from_length c.args.held.now (eqb-true _ _ (sym c.is_empty.ensures ∙ c.if-not-is_empty.false)) in
    word_next c.args.wanted c.args.held.now c.args.next.now c.word_in-in-Count.result (λ s. rw c.in-Count.is refl) none c.if-next-lt4.false c.word_in-in-Count.ensures
