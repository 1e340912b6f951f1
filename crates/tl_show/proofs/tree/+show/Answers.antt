use Rattle.std.proofs.Common.{ap, ◌∙◌, arith}
use Rattle.serde_json.specs.Data.{array}
use Rattle.serde_json.proofs.Views.{view-Array}
use Rattle.tl_schema.specs.Seen.{shape}
use Rattle.tl_types.proofs.Closings.{closed_none, no_arguments}
use Rattle.tl_show.proofs.Elements.{all_shown}
use Rattle.tl_show.proofs.tree.+show.Goals as goal

pub array_of-returns : goal.array_of-returns
array_of-returns t c =
    let xs = c.deref-value-items in
    let l = c.loop-value in
    view-Array l.items
    ∙ ap array (all_shown c.args.schema.now.decls (shape c.args.of.now) _ xs.result.now l.items.items l.value-index xs.ensures.value l.invariant (omega arith))

pub field_of-returns-then-is_empty : goal.field_of-returns-then-is_empty
field_of-returns-then-is_empty t c = rw (no_arguments c.args.args.now c.is_empty.result c.is_empty.ensures c.if-is_empty.true, closed_none (shape c.args.field.now.of)) c.json_of.ensures
