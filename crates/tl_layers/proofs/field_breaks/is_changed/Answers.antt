use Rattle.std.proofs.Common.{sym, ap, ◌∙◌}
use Rattle.tl_schema.specs.Seen.{slot}
use Rattle.tl_layers.specs.Breaks.{field_index}
use Rattle.tl_layers.proofs.DecidedBreaks.{named_equal}
use Rattle.tl_layers.proofs.FieldTests.{changed_type, changed_condition, some_test}
use Rattle.tl_layers.specs.Breaks.{named_condition}
use Rattle.tl_layers.proofs.field_breaks.is_changed.Goals as goal

pub returns-then-not-is_image : goal.returns-then-not-is_image
returns-then-not-is_image c =
    let b = some_test (named_equal (named_condition c.args.news.now c.at-other.result.now.cond) (named_condition c.args.olds.now c.at-field.result.now.cond)) in
    changed_type c.args.olds.now c.args.news.now c.args.k (slot c.at-field.result.now) c.at-field.ensures c.args.pair.now.old c.args.pair.now.new c.in-Some.m (slot c.at-other.result.now)
    (ap (field_index c.args.news.now) (sym c.as_slice.ensures.value) ∙ sym c.in-Some.ensures.index) c.at-other.ensures c.is_image.result b.0 c.is_image.ensures b.1 c.if-not-is_image.true

pub returns-else-not-is_image : goal.returns-else-not-is_image
returns-else-not-is_image c =
    changed_condition c.args.olds.now c.args.news.now c.args.k (slot c.at-field.result.now) c.at-field.ensures c.args.pair.now.old c.args.pair.now.new c.in-Some.m (slot c.at-other.result.now)
    (ap (field_index c.args.news.now) (sym c.as_slice.ensures.value) ∙ sym c.in-Some.ensures.index) c.at-other.ensures c.is_image.result c.is_same_condition.result c.is_image.ensures c.is_same_condition.ensures c.if-not-is_image.false
