use Rattle.std.proofs.Common.{length, Ok, ap, sym, ◌∙◌, refl}
use Rattle.std.specs.Int.{w64, from_le_bytes}
use Rattle.tl_types.specs.Offsets.{moved}
use Rattle.tl_types.specs.Values.{ValueView}
use Rattle.tl_types.specs.Values as value
use Rattle.tl_types.specs.inner.Reading.{spot}
use Rattle.tl_types.proofs.Views.{view-Opaque}
use Rattle.tl_decode.specs.inner.Frames.{item_at, plain}
use Rattle.tl_decode.proofs.HeldBytes.{long_whole, opaque_whole}
use Rattle.tl_decode.proofs.held_items.whole_item.Goals as goal

pub returns-in-Long : goal.returns-in-Long
returns-in-Long c =
    let b = c.args.bytes.now in
    rw c.in-Long.is (λ p more. long_whole p (from_le_bytes w64 b) b more (rw c.in-Long.is at c.requires) refl ∙ ap (λ (v : ValueView). Ok (plain v, spot (moved p (length b)) more)) (sym c.long_value.ensures))

pub returns-in_ok-from_slice-in-Opaque : goal.returns-in_ok-from_slice-in-Opaque
returns-in_ok-from_slice-in-Opaque c =
    let b = c.args.bytes.now in
    rw c.in-Opaque.is (λ p more.
    opaque_whole p c.in-Opaque.width b more (rw c.in-Opaque.is at c.requires) ∙ ap (λ (v : ValueView). Ok (plain v, spot (moved p (length b)) more)) (sym (view-Opaque _ ∙ ap value.opaque c.in_ok-from_slice-in-Opaque.ensures)))

pub returns-in-Int : goal.returns-in-Int
unfolding item_at
returns-in-Int c = rw c.in-Int.is c.whole_word.ensures

pub returns-in-Number : goal.returns-in-Number
unfolding item_at
returns-in-Number c = rw c.in-Number.is c.whole_word-in-Number.ensures

pub returns-in-ListNumber : goal.returns-in-ListNumber
unfolding item_at
returns-in-ListNumber c = rw c.in-ListNumber.is c.whole_word-in-ListNumber.ensures

pub returns-in-Count : goal.returns-in-Count
unfolding item_at
returns-in-Count c = rw c.in-Count.is c.whole_word-in-Count.ensures
