use Rattle.std.proofs.Common.{refl}
use Rattle.std.proofs.lemmas.Bool.{iff_false}
use Rattle.tl_program.specs.Program.{decl_text, field_text}
use Rattle.tl_schema.proofs.ListParts.{front_item}
use Rattle.tl_schema.proofs.FieldConditions.{flags_found, no_flags_more}
use Rattle.tl_schema.proofs.bad_flag.has_flags_before.Goals as goal

pub returns-then-is_flags : goal.returns-then-is_flags
returns-then-is_flags c =
    let item = front_item field_text c.args.decl.now.fields.items c.args.i c.loop-field.field-index c.field-item.result (rw c.deref.ensures.value at c.loop-field-test.true) (rw c.deref.ensures.value at c.field-item.is) in
    (λ e. flags_found (decl_text c.args.decl.now) c.loop-field.field-index (field_text c.field-item.result) item.1 c.args.flags.now c.args.i item.0 (c.is_flags.ensures.0 c.if-is_flags.true), λ b. refl)

pub loop-field-preserved : goal.loop-field-preserved
loop-field-preserved c =
    let item = front_item field_text c.args.decl.now.fields.items c.args.i c.loop-field.field-index c.field-item.result (rw c.deref.ensures.value at c.loop-field-test.true) (rw c.deref.ensures.value at c.field-item.is) in
    no_flags_more (decl_text c.args.decl.now) c.loop-field.field-index (field_text c.field-item.result) item.1 c.args.flags.now c.loop-field.invariant (iff_false c.is_flags.ensures c.if-is_flags.false)
