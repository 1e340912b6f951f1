use Rattle.std.proofs.Common.{refl, ap, sym, ◌∙◌}
use Rattle.tl_schema.specs.Types.{Shape}
use Rattle.tl_schema.specs.Schemas.{Declared}
use Rattle.tl_schema.specs.declared.form.TypeForm.TheVariants as form
use Rattle.tl_types.specs.inner.Reading.{first_from, is_member, is_function}
use Rattle.tl_decode.specs.inner.Frames.{find_in, type_in}
use Rattle.tl_decode.proofs.PlanTypes.{finds_none, shown_type}
use Rattle.tl_decode.proofs.taking.numbered.Goals as goal

pub returns-in-Boxed : goal.returns-in-Boxed
returns-in-Boxed c =
    let is = shown_type c.args.plan.now c.args.of c.instance.result.now (form.Boxed c.in-Boxed.head) c.instance.ensures.shows c.in-Boxed.is in
    c.member.ensures.found ∙ ap (λ (S : Declared). first_from (is_member c.in-Boxed.head c.args.word) 0 S.decls) c.schema.ensures ∙ sym (ap (λ (T : Shape). find_in c.args.plan.now.schema.decls T c.args.word) is.1)

pub returns-in-Call : goal.returns-in-Call
returns-in-Call c =
    let is = shown_type c.args.plan.now c.args.of c.instance.result.now form.Call c.instance.ensures.shows c.in-Call.is in
    c.function.ensures.found ∙ ap (λ (S : Declared). first_from (is_function c.args.word) 0 S.decls) c.schema-in-Call.ensures ∙ sym (ap (λ (T : Shape). find_in c.args.plan.now.schema.decls T c.args.word) is)

pub returns-in_default : goal.returns-in_default
returns-in_default c =
    sym (finds_none (type_in c.args.plan.now c.args.of) c.instance.result.now.form (shown_type c.args.plan.now c.args.of c.instance.result.now c.instance.result.now.form c.instance.ensures.shows refl) c.in_default.not-Call c.in_default.not-Boxed c.args.plan.now.schema.decls c.args.word)
