use Rattle.std.proofs.Common.{◌≤◌, sym, length, true≢false, refl, arith}
use Rattle.std.proofs.lemmas.Bool.{iff_false}
use Rattle.std.proofs.lemmas.List.{length-map}
use Rattle.tl_program.specs.Program.{decl_text, field_text}
use Rattle.tl_names.proofs.Maps.{slice_get_item}
use Rattle.tl_schema.proofs.FieldConditions.{none_bad_more, none_bad}
use Rattle.tl_schema.proofs.bad_flag.has_bad_condition.Goals as goal

pub returns-then-is_bad_condition : goal.returns-then-is_bad_condition
returns-then-is_bad_condition c =
    let at = slice_get_item field_text c.args.decl.now.fields.items c.loop-i.i c.field-item.result (rw c.deref-field-items.ensures.value at c.loop-i-test.true) (rw c.deref-field-items.ensures.value at c.field-item.is) in
    (λ e. record { i = c.loop-i.i; f = field_text c.field-item.result; field = at; bad = c.is_bad_condition.ensures.0 c.if-is_bad_condition.true }, λ h. refl)

pub loop-i-preserved : goal.loop-i-preserved
loop-i-preserved c =
    let at = slice_get_item field_text c.args.decl.now.fields.items c.loop-i.i c.field-item.result (rw c.deref-field-items.ensures.value at c.loop-i-test.true) (rw c.deref-field-items.ensures.value at c.field-item.is) in
    none_bad_more (decl_text c.args.decl.now) c.loop-i.i (field_text c.field-item.result) at c.loop-i.invariant (iff_false c.is_bad_condition.ensures c.if-is_bad_condition.false)

pub returns : goal.returns
returns c =
    let past = rw c.deref-field-items.ensures.value at c.loop-i-test.false in
    let all : length (decl_text c.args.decl.now).fields ≤ c.loop-i.i = omega (arith, past, length-map c.args.decl.now.fields.items field_text) in
    (λ e. absurd (true≢false (sym e)), λ h. absurd (none_bad (decl_text c.args.decl.now) c.loop-i.i all c.loop-i.invariant h))
