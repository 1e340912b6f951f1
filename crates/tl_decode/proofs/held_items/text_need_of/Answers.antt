use Rattle.std.proofs.Common.{ℕ, List, sym, ap, ◌∙◌, arith}
use Rattle.tl_types.specs.inner.Reading.{text_head_of}
use Rattle.tl_decode.specs.inner.Needs.{head_needs}
use Rattle.tl_decode.proofs.HeldBytes.{text_four, text_more_than}
use Rattle.tl_decode.proofs.held_items.text_need_of.Goals as goal

pub returns-then-bytes-lt4 : goal.returns-then-bytes-lt4
returns-then-bytes-lt4 c = sym (text_four c.args.bytes.now (omega (arith, c.if-bytes-lt4.true)))

pub returns-in-Ok : goal.returns-in-Ok
returns-in-Ok c =
    let is = sym c.in-Ok.is ∙ c.head_of.ensures.head in
    let whole = ap head_needs is ∙ ap (λ (w : List ℕ). head_needs (text_head_of w)) c.four_bytes.ensures ∙ sym (text_more_than c.args.bytes.now (omega (arith, c.if-bytes-lt4.false))) in
    rw c.missing_of.ensures whole

pub returns-in-Err : goal.returns-in-Err
returns-in-Err c =
    let is = sym c.in-Err.is ∙ c.head_of.ensures.head in
    ap head_needs is ∙ ap (λ (w : List ℕ). head_needs (text_head_of w)) c.four_bytes.ensures ∙ sym (text_more_than c.args.bytes.now (omega (arith, c.if-bytes-lt4.false)))
