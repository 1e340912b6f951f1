use Rattle.tl_program.specs.Program.{field_text}
use Rattle.std.proofs.Common.{map}
use Rattle.tl_names.specs.NameIndexes.{index_among}
use Rattle.tl_names.specs.MeantDecls.{field_by}
use Rattle.tl_names.specs.MeantViews.{field_in, field_view, what_in}
use Rattle.tl_names.proofs.Maps.{slice_get_item}
use Rattle.tl_names.proofs.MadeLists.{made_more}
use Rattle.tl_names.proofs.fields.meant_fields.Goals as goal

pub loop-field-preserved : goal.loop-field-preserved
loop-field-preserved c =
    let at = slice_get_item field_text c.args.fields.now c.loop-field.field-index c.field-item.result c.loop-field-test.true c.field-item.is in
    rw c.in_ok-push.ensures.items
    (made_more field_view (field_by (what_in c.args.index.now c.args.vars.now) (index_among c.args.vars.now) (field_in (map field_text c.args.fields.now))) c.loop-field.meant.items (map field_text c.args.fields.now) c.loop-field.field-index c.loop-field.invariant c.in_ok-meant_field.field-0 (field_text c.field-item.result) at c.in_ok-meant_field.ensures)
