use Rattle.std.proofs.Common.{ap, string_bytes, ◌∙◌}
use Rattle.tl_schema.specs.Seen.{shape}
use Rattle.tl_show.specs.Shown.{name_text}
use Rattle.tl_show.specs.inner.Forms.{name}
use Rattle.tl_show.specs.inner.FormViews.{entry_views}
use Rattle.tl_show.proofs.FieldsPut.{adds_first, puts_more, puts_name}
use Rattle.tl_show.proofs.forms.parts_of.Goals as goal

pub loop-index-init : goal.loop-index-init
loop-index-init c =
    puts_name (entry_views c.add_part.new.parts.entries) (string_bytes c.in_ok-from_str.field-0) c.in_ok-from_str.ensures.ok
    (adds_first _ (entry_views c.add_part.new.parts.entries) (string_bytes c.in_ok-from_str.field-0) name (ap entry_views c.new-parts.ensures.empty) c.in_ok-add_part.ensures)

pub loop-index-preserved : goal.loop-index-preserved
loop-index-preserved c =
    puts_more c.args.fields.now c.loop-index.index c.index-fields-index.result (entry_views c.loop-index.parts.entries) (entry_views c.add_part-in-loop-index.new.parts.entries)
    (string_bytes c.in_ok-text.text) (shape c.in_ok-of.of) c.loop-index-test.true c.index-fields-index.is (c.in_ok-text.ensures ∙ ap name_text c.as_slice.ensures.value) c.in_ok-of.ensures
    c.in_ok-add_part-2.ensures c.loop-index.invariant
