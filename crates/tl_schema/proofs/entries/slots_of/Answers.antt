use Rattle.std.proofs.Common.{◌≡◌, ◌<◌, ◌≤◌, ◌∙◌, Some, ap₂, arith, length, refl, slice_get}
use Rattle.std.proofs.lemmas.List.{length-map}
use Rattle.std.proofs.lemmas.Option.{slice_get_read, slice_get_within}
use Rattle.tl_program.specs.Program.{decl_text, field_text}
use Rattle.tl_names.specs.MeantDecls.{meant_field}
use Rattle.tl_names.specs.MeantViews.{field_view}
use Rattle.tl_schema.specs.Seen.{slot}
use Rattle.tl_schema.specs.Meanings.{meant_slot, slot_of}
use Rattle.tl_names.proofs.Maps.{slice_get_item}
use Rattle.tl_names.proofs.MadeLists.{made_all, made_more}
use Rattle.tl_schema.proofs.MeantEntries.{same_length, same_made}
use Rattle.tl_schema.proofs.entries.slots_of.Goals as goal

pub overflow_cast-count : goal.overflow_cast-count
overflow_cast-count c = omega (arith, c.len-count.ensures, c.args.decl.now.fields.ok.0, length-map c.args.decl.now.fields.items field_text, c.requires.few)

pub loop-at-preserved : goal.loop-at-preserved
loop-at-preserved c =
    let ds = c.args.index.now in
    let d = decl_text c.args.decl.now in
    let f = field_text c.field-item.result in
    let at = slice_get_item field_text c.args.decl.now.fields.items c.loop-at.at c.field-item.result (rw c.deref-field-items.ensures.value at c.loop-at-test.true) (rw c.deref-field-items.ensures.value at c.field-item.is) in
    let within : c.loop-at.at < length c.args.meant.now = omega (arith, slice_get_within d.fields c.loop-at.at f at, same_length field_view (meant_field ds d) c.args.meant.now d.fields c.requires.same) in
    let there : slice_get c.args.meant.now c.loop-at.at ≡ Some c.index-meant-at.result = slice_get_read c.args.meant.now (length c.args.meant.now) c.loop-at.at c.index-meant-at.result refl within c.index-meant-at.is in
    let same = same_made field_view (meant_field ds d) c.args.meant.now d.fields c.requires.same c.loop-at.at c.index-meant-at.result f there at in
    let count : c.len-count.result ≡ length d.fields = omega (arith, c.len-count.ensures, c.args.decl.now.fields.ok.0, length-map c.args.decl.now.fields.items field_text) in
    rw c.in_ok-push.ensures.items
    (made_more slot (slot_of ds d) c.loop-at.slots.items d.fields c.loop-at.at c.loop-at.invariant c.in_ok-slot_of.field-0 f at (c.in_ok-slot_of.ensures ∙ ap₂ (λ n m. meant_slot ds n f.name m) count same))

pub returns : goal.returns
returns c =
    let d = decl_text c.args.decl.now in
    let past = rw c.deref-field-items.ensures.value at c.loop-at-test.false in
    let all : length d.fields ≤ c.loop-at.at = omega (arith, past, length-map c.args.decl.now.fields.items field_text) in
    made_all slot (slot_of c.args.index.now d) c.loop-at.slots.items d.fields c.loop-at.at c.loop-at.invariant all
