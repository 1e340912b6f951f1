use Rattle.std.proofs.Common.{◌≡◌, ◌≤◌, [], map, refl, sym, ap, ◌∙◌, string_bytes, arith}
use Rattle.tl_schema.specs.Closing.{closed}
use Rattle.tl_schema.specs.Seen.{shape}
use Rattle.tl_types.specs.Seen.{view, views}
use Rattle.tl_types.proofs.Views.{view-Call, view-List, view-Node, view-Text}
use Rattle.serde_json.specs.Data.{array, object}
use Rattle.serde_json.specs.Written.{compact_text}
use Rattle.tl_show.specs.inner.Forms.{last_of, members_at, part_of, read_at, written_each}
use Rattle.tl_show.specs.inner.FormViews.{form_view, part_view, parts_view}
use Rattle.tl_show.specs.declared.form.Part.{Part}
use Rattle.tl_show.specs.inner.Scopes.{shapes_in}
use Rattle.tl_show.proofs.Lines.{empty_record, first_item, first_member, last_item, last_member, list_same, next_item, next_member, nothing_written, record_written, text_same, title_written}
use Rattle.tl_show.proofs.Putting.{same_put}
use Rattle.tl_show.proofs.FieldsByIndex.{call_written, field_past, field_there, form_past, form_there, node_written}
use Rattle.tl_types.specs.Parts.{arguments_of, item_of}
use Rattle.tl_show.specs.Shown.{is_string}
use Rattle.tl_show.proofs.Scopes.{settled_arguments, settled_item, settled_string, shapes-made}
use Rattle.tl_show.proofs.Sizes.{size, size_of, size_within}
use Rattle.tl_show.proofs.writing.+write.Goals as goal

pub write_items-write_value-requires : goal.write_items-write_value-requires
write_items-write_value-requires g t c =
    let small : size (view c.item-item.result) ≤ size_of (views c.args.items.now) =
    rw c.item-item.is (size_within c.args.items.now c.loop-item.item-index c.item-item.result c.loop-item-test.true) in
    λ κs alive. (omega (arith, small, c.decreases), alive)

pub write_member-write_field-requires : goal.write_member-write_field-requires
write_member-write_field-requires g t c =
    let at = c.in-Some.ensures.lookup in
    let small : size (view c.in-Some.value.now) ≤ size_of (views c.args.fields.now) =
    rw at.1 (size_within c.args.fields.now c.in-Field.index c.in-Some.value.now at.3.0) in
    λ κs alive. (omega (arith, small), alive)

pub write_items-loop-item-init : goal.write_items-loop-item-init
write_items-loop-item-init g t c =
    first_item g.S.TextSink.puts c.args.out.now c.put.new.self (written_each (map form_view c.args.forms.now) (closed (shapes_in c.args.scope) (shape c.args.of.now)) (views c.args.items.now)) c.put.ensures

pub write_items-loop-item-preserved : goal.write_items-loop-item-preserved
write_items-loop-item-preserved g t c =
    next_item g.S.TextSink.puts g.met.S.TextSink.puts_both (map form_view c.args.forms.now) (closed (shapes_in c.args.scope) (shape c.args.of.now)) c.args.items.now c.loop-item.item-index c.item-item.result
    c.args.out.now c.loop-item.out c.write_comma.new.out c.write_value.new.out c.loop-item.later _ c.loop-item-test.true c.item-item.is c.write_comma.ensures c.write_value.ensures c.loop-item.invariant

pub write_items-returns : goal.write_items-returns
write_items-returns g t c =
    let T = closed (shapes_in c.args.scope) (shape c.args.of.now) in
    last_item g.S.TextSink.puts g.met.S.TextSink.puts_both (map form_view c.args.forms.now) T c.args.items.now c.loop-item.item-index c.args.out.now c.loop-item.out c.put-2.new.self
    c.loop-item.later (compact_text (array (written_each (map form_view c.args.forms.now) T (views c.args.items.now)))) (omega (arith, c.loop-item-test.false)) c.put-2.ensures c.loop-item.invariant

pub write_members-loop-key-init : goal.write_members-loop-key-init
write_members-loop-key-init g t c =
    let f = form_view c.args.form.now in
    first_member g.S.TextSink.puts c.args.out.now c.put.new.self (members_at f.name (shapes_in c.args.scope) (read_at (map form_view c.args.forms.now) (views c.args.fields.now)) f.keys) c.put.ensures

pub write_members-loop-key-preserved : goal.write_members-loop-key-preserved
write_members-loop-key-preserved g t c =
    next_member g.S.TextSink.puts g.met.S.TextSink.puts_both (form_view c.args.form.now).name (shapes_in c.args.scope) (read_at (map form_view c.args.forms.now) (views c.args.fields.now)) c.args.form.now.keys.items
    c.loop-key.key-index c.key-item.result c.args.out.now c.loop-key.out c.write_member-later.new.out c.loop-key.later c.write_member-later.result _
    (rw c.deref-key-items.ensures.value at c.loop-key-test.true) (rw c.deref-key-items.ensures.value at c.key-item.is)
    c.write_member-later.ensures c.loop-key.invariant

pub write_members-returns : goal.write_members-returns
write_members-returns g t c =
    let f = form_view c.args.form.now in
    let args = shapes_in c.args.scope in
    let at = read_at (map form_view c.args.forms.now) (views c.args.fields.now) in
    last_member g.S.TextSink.puts g.met.S.TextSink.puts_both f.name args at c.args.form.now.keys.items c.loop-key.key-index c.args.out.now c.loop-key.out c.put-2.new.self
    c.loop-key.later (compact_text (object (members_at f.name args at f.keys))) (omega (arith, c.loop-key-test.false)) c.put-2.ensures c.loop-key.invariant

pub write_member-returns-in-Name : goal.write_member-returns-in-Name
write_member-returns-in-Name g t c =
    let n = string_bytes c.args.form.now.name in
    let args = shapes_in c.args.scope in
    let at = read_at (map form_view c.args.forms.now) (views c.args.fields.now) in
    let stands : last_of n args at (parts_view c.args.key.now.parts) ≡ part_of n args at (part_view c.part_there.result.now) = c.part_there.ensures n args (map form_view c.args.forms.now) in
    let name = ap (λ (p : Part). part_of n args at (part_view p)) c.in-Name.is in
    title_written g.S.TextSink.puts g.met.S.TextSink.puts_both c.args.later c.args.out.now c.write_key.new.out c.put.new.self (string_bytes c.args.key.now.name) n c.deref.result.now
    (last_of n args at (parts_view c.args.key.now.parts)) (stands ∙ name) (c.deref.ensures.value ∙ c.args.form.now.is_title) c.write_key.ensures c.put.ensures

pub write_member-returns-in-Some : goal.write_member-returns-in-Some
write_member-returns-in-Some g t c =
    let found = c.in-Some.ensures.lookup in
    let n = string_bytes c.args.form.now.name in
    let args = shapes_in c.args.scope in
    let fs = map form_view c.args.forms.now in
    let at = read_at fs (views c.args.fields.now) in
    let stands : last_of n args at (parts_view c.args.key.now.parts) ≡ part_of n args at (part_view c.part_there.result.now) = c.part_there.ensures n args fs in
    let there = field_there fs n args c.args.fields.now c.part_there.result.now c.in-Field.index c.in-Field.of c.in-Some.value.now c.in-Field.is found.3.0 found.1 in
    rw (stands, there) c.write_field.ensures

pub write_member-returns-in-None : goal.write_member-returns-in-None
write_member-returns-in-None g t c =
    let n = string_bytes c.args.form.now.name in
    let args = shapes_in c.args.scope in
    let fs = map form_view c.args.forms.now in
    let at = read_at fs (views c.args.fields.now) in
    let stands : last_of n args at (parts_view c.args.key.now.parts) ≡ part_of n args at (part_view c.part_there.result.now) = c.part_there.ensures n args fs in
    nothing_written g.S.TextSink.puts c.args.later c.args.out.now (string_bytes c.args.key.now.name) (last_of n args at (parts_view c.args.key.now.parts)) (g.met.S.TextSink.puts_none c.args.out.now)
    (stands ∙ field_past fs n args c.args.fields.now c.part_there.result.now c.in-Field.index c.in-Field.of c.in-Field.is c.in-None.ensures.lookup.3)

pub write_record-returns-in-Some : goal.write_record-returns-in-Some
write_record-returns-in-Some g t c =
    let at = c.in-Some.ensures.lookup in
    let fs = map form_view c.args.forms.now in
    record_written g.S.TextSink.puts c.args.out.now c.write_members.new.out fs c.args.entry (shapes_in c.args.scope)
    (read_at fs (views c.args.fields.now)) (form_view c.in-Some.form.now) (form_there c.args.forms.now c.args.entry c.in-Some.form.now at.3.0 at.1) c.write_members.ensures

pub write_record-returns-in-None : goal.write_record-returns-in-None
write_record-returns-in-None g t c =
    let fs = map form_view c.args.forms.now in
    same_put g.S.TextSink.puts c.args.out.now c.put.new.self _ _
    (empty_record fs c.args.entry (shapes_in c.args.scope) (read_at fs (views c.args.fields.now)) (form_past c.args.forms.now c.args.entry c.in-None.ensures.lookup.3)) c.put.ensures

pub write_value-returns-in-Node : goal.write_value-returns-in-Node
write_value-returns-in-Node g t c =
    let fs = map form_view c.args.forms.now in
    let T = closed (shapes_in c.args.scope) (shape c.args.of.now) in
    let found = c.resolved-in-Node.result in
    let args = c.arguments_of-args.result in
    let given = shapes-made args found.1 ∙ ap (map (closed (shapes_in found.1))) c.arguments_of-args.ensures
    ∙ sym (settled_arguments (shapes_in found.1) (shape found.0.now) c.resolved-in-Node.ensures.settled) ∙ ap arguments_of c.resolved-in-Node.ensures.same in
    let is = ap view c.in-Node.is ∙ view-Node c.in-Node.entry c.in-Node.fields ∙ rw c.deref-in-Node.ensures.value refl in
    let whole = node_written fs T (view c.args.value.now) c.in-Node.entry (views c.deref-in-Node.result.now) _ is given in
    same_put g.S.TextSink.puts c.args.out.now c.write_record.new.out _ _ (ap compact_text whole) c.write_record.ensures

pub write_value-returns-in-Call : goal.write_value-returns-in-Call
write_value-returns-in-Call g t c =
    let T = closed (shapes_in c.args.scope) (shape c.args.of.now) in
    let is = ap view c.in-Call.is ∙ view-Call c.in-Call.entry c.in-Call.fields ∙ rw c.deref-in-Call.ensures.value refl in
    let whole = call_written (map form_view c.args.forms.now) T (view c.args.value.now) c.in-Call.entry (views c.deref-in-Call.result.now) [] is refl in
    same_put g.S.TextSink.puts c.args.out.now c.write_record-in-Call.new.out _ _ (ap compact_text whole) c.write_record-in-Call.ensures

pub write_value-returns-in-Text : goal.write_value-returns-in-Text
write_value-returns-in-Text g t c =
    let found = c.resolved.result in
    let T = closed (shapes_in c.args.scope) (shape c.args.of.now) in
    let string = ap is_string (sym c.resolved.ensures.same) ∙ settled_string (shapes_in found.1) (shape found.0.now) c.resolved.ensures.settled in
    let whole = text_same (map form_view c.args.forms.now) T (shape found.0.now) (view c.args.value.now) c.in-Text.bytes c.as_slice-in-Text.result.now
    (ap view c.in-Text.is ∙ view-Text c.in-Text.bytes) c.as_slice-in-Text.ensures.value string in
    same_put g.S.TextSink.puts c.args.out.now c.write_text.new.out _ _ whole c.write_text.ensures

pub write_value-returns-in-List : goal.write_value-returns-in-List
write_value-returns-in-List g t c =
    let found = c.resolved-in-List.result in
    let T = closed (shapes_in c.args.scope) (shape c.args.of.now) in
    let I = closed (shapes_in found.1) (shape c.item_of.result.now) in
    let item = ap item_of (sym c.resolved-in-List.ensures.same) ∙ settled_item (shapes_in found.1) (shape found.0.now) c.resolved-in-List.ensures.settled ∙ ap (closed (shapes_in found.1)) (sym c.item_of.ensures) in
    let whole = list_same (map form_view c.args.forms.now) T I (view c.args.value.now) (views c.in-List.items.items) (views c.deref.result.now)
    (ap view c.in-List.is ∙ view-List c.in-List.items) (ap views c.deref.ensures.value) item in
    same_put g.S.TextSink.puts c.args.out.now c.write_items.new.out _ _ whole c.write_items.ensures
