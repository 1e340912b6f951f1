use Rattle.std.proofs.Common.{◌≡◌, ℕ, Ok, ◌+◌, ◌-◌, take, drop, length, refl, ap, sym, ◌∙◌, arith}
use Rattle.tl_types.specs.Offsets.{moved}
use Rattle.tl_types.specs.Values.{ValueView}
use Rattle.tl_types.specs.Values as value
use Rattle.tl_types.specs.inner.Reading.{spot}
use Rattle.tl_types.proofs.Views.{view-Text}
use Rattle.tl_decode.specs.inner.Frames.{plain}
use Rattle.tl_decode.proofs.HeldBytes.{padding_is, text_padded, text_whole}
use Rattle.tl_decode.proofs.held_items.text_item.Goals as goal

pub returns-then-not-is_zero : goal.returns-then-not-is_zero
returns-then-not-is_zero c =
    let b = c.args.bytes.now in
    (refl, λ p more. text_padded (c.args.head, c.args.size) b c.requires.some c.requires.few c.requires.head c.requires.all p more (padding_is _ b _ c.args.head c.args.size c.is_zero.ensures refl ∙ c.if-not-is_zero.true))

pub returns : goal.returns
returns c =
    let b = c.args.bytes.now in
    let size : (c.args.head + c.args.size) - c.args.head ≡ c.args.size = omega arith in
    λ p more.
    text_whole (c.args.head, c.args.size) b c.requires.some c.requires.few c.requires.head c.requires.all p more (padding_is _ b _ c.args.head c.args.size c.is_zero.ensures refl ∙ c.if-not-is_zero.false)
    ∙ ap (λ (v : ValueView). Ok (plain v, spot (moved p (length b)) more)) (sym (view-Text _ ∙ ap value.text (c.in_ok-text.ensures ∙ ap (λ (n : ℕ). take n (drop c.args.head b)) size)))
