use Rattle.std.proofs.Common.{◌≤◌, List, length, ap, sym, ◌∙◌, arith}
use Rattle.tl_types.specs.inner.Reading.{text_head_of}
use Rattle.tl_decode.specs.inner.Needs.{head_needs}
use Rattle.tl_decode.proofs.HeldBytes.{head_whole, text_least, text_more_than, text_wrong}
use Rattle.tl_decode.proofs.held_items.whole_text.Goals as goal

pub four_bytes-requires : goal.four_bytes-requires
four_bytes-requires c = omega (arith, text_least c.args.bytes.now, c.requires)

pub text_item-requires-clause-all : goal.text_item-requires-clause-all
text_item-requires-clause-all c =
    let some : 4 ≤ length c.args.bytes.now = omega (arith, text_least c.args.bytes.now, c.requires) in
    let is = sym c.in-Ok.is ∙ c.head_of.ensures.head in
    c.requires ∙ text_more_than c.args.bytes.now some ∙ ap (λ (w : List _). head_needs (text_head_of w)) (sym c.four_bytes.ensures) ∙ ap head_needs (sym is)

pub returns-in-Err : goal.returns-in-Err
returns-in-Err c =
    let some : 4 ≤ length c.args.bytes.now = omega (arith, text_least c.args.bytes.now, c.requires) in
    let is = sym c.head_of.ensures.head ∙ c.in-Err.is in
    (head_whole c.four_bytes.result c.in-Err.cause is, λ p more. text_wrong p c.in-Err.cause c.args.bytes.now more some (ap text_head_of (sym c.four_bytes.ensures) ∙ is))
