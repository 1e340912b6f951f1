use Rattle.std.proofs.Common.{Some, None, ap, map, refl, sym, ◌∙◌}
use Rattle.std.proofs.lemmas.Result.{err_from_is_err_and}
use Rattle.serde_json.specs.View.{members_view}
use Rattle.tl_schema.specs.Seen.{shape}
use Rattle.tl_types.specs.Seen.{view}
use Rattle.tl_types.proofs.Closings.{closed_none, no_arguments}
use Rattle.tl_show.specs.Shown.{name_text}
use Rattle.tl_show.specs.Reading.{one_field, parts}
use Rattle.tl_show.specs.inner.Keyed.{keyed_slot}
use Rattle.tl_show.proofs.FieldCounts.{filled}
use Rattle.tl_show.proofs.FormSteps.{tells_same}
use Rattle.tl_show.proofs.MembersFound.{members_counted}
use Rattle.tl_show.proofs.ReadLoops.{element_fails, field_fails, part_found}
use Rattle.tl_show.proofs.reading.+read.Goals as goal

pub all_fields-returns-then-fill_members : goal.all_fields-returns-then-fill_members
all_fields-returns-then-fill_members t c =
    filled c.args.schema.now.decls (map shape c.args.args.now) _ _ (members_view c.args.members.now.entries) _ c.fields_of-values.result c.fields-fields.ensures
    (sym (members_counted c.args.members.now)) (c.has_apart_keys.ensures (c.if-fill_members.ensures.apart refl)) c.requires c.fields_of-values.ensures (c.if-fill_members.ensures.counts refl)

pub closed_of-returns-then-is_empty : goal.closed_of-returns-then-is_empty
closed_of-returns-then-is_empty t c = rw (no_arguments c.args.args.now c.is_empty.result c.is_empty.ensures c.if-is_empty.true, closed_none (shape c.args.of.now)) c.value_of.ensures

pub elements_of-returns-in_err-value : goal.elements_of-returns-in_err-value
elements_of-returns-in_err-value t c =
    let p = err_from_is_err_and c.from_residual-in_err-value.result c.from_residual-in_err-value.ensures.1 in
    rw (p.1, p.2) (element_fails c.args.schema.now.decls (shape c.args.of.now) c.deref-item-items.result.now c.args.items.now.items c.loop-i.i c.item-item.result (map view c.loop-i.values.items) _
    c.deref-item-items.ensures.value c.loop-i-test.true c.item-item.is c.loop-i.invariant (c.in_err-value.ensures _ c.value_of.ensures))

pub field_of-returns-in-Some : goal.field_of-returns-in-Some
field_of-returns-in-Some t c =
    let ds = c.args.schema.now.decls in
    let f = c.args.field.now in
    let found = part_found ds c.args.members.now (name_text (keyed_slot f).name) c.as_str.result.now (Some c.in-Some.json) (c.as_str.ensures.value ∙ f.named) c.in-Some.ensures.value in
    tells_same view _ _ c.closed_of.result (ap (one_field (map shape c.args.args.now) (keyed_slot f)) found) c.closed_of.ensures

pub field_of-returns-in-None : goal.field_of-returns-in-None
field_of-returns-in-None t c =
    let ds = c.args.schema.now.decls in
    let f = c.args.field.now in
    let found = part_found ds c.args.members.now (name_text (keyed_slot f).name) c.as_str.result.now None (c.as_str.ensures.value ∙ f.named) c.in-None.ensures.value in
    tells_same view _ _ c.not_there.result (ap (one_field (map shape c.args.args.now) (keyed_slot f)) found) c.not_there.ensures

pub fields_of-returns-in_err-value : goal.fields_of-returns-in_err-value
fields_of-returns-in_err-value t c =
    let p = err_from_is_err_and c.from_residual-in_err-value.result c.from_residual-in_err-value.ensures.1 in
    let ps = parts c.args.schema.now.decls (members_view c.args.members.now.entries) in
    rw (p.1, p.2) (field_fails (map shape c.args.args.now) ps c.args.fields.now c.loop-i.i c.index-fields-i.result (map view c.loop-i.values.items) _ _ c.loop-i-test.true c.index-fields-i.is c.loop-i.invariant
    (c.in_err-value.ensures _ c.field_of.ensures))
