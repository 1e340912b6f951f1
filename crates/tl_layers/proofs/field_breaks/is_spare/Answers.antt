use Rattle.std.proofs.Common.{sym, ap, ◌∙◌, subst, IsTrue, ◌↔◌, not}
use Rattle.tl_schema.specs.Seen.{slot}
use Rattle.tl_layers.specs.Breaks.{field_index, IsSpare}
use Rattle.tl_layers.proofs.FieldTests.{spare_then}
use Rattle.tl_layers.proofs.field_breaks.is_spare.Goals as goal

pub returns-then-is_number : goal.returns-then-is_number
returns-then-is_number c =
    subst (λ o. IsTrue (not c.names_bit.result) ↔ IsSpare c.args.olds.now c.args.news.now o) (sym c.in-Some.is)
    (spare_then c.args.olds.now c.args.news.now c.in-Some.cond.0 c.in-Some.cond.1 (slot c.at.result.now) c.at.ensures c.in-Some-index_of.k (slot c.at-in-Some-index_of.result.now)
    (ap (field_index c.args.olds.now) (sym c.as_slice.ensures.value) ∙ sym c.in-Some-index_of.ensures.index) c.at-in-Some-index_of.ensures c.is_number.result c.names_bit.result c.is_number.ensures c.names_bit.ensures c.if-is_number.true)
