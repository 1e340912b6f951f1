use Rattle.std.proofs.Common.{◌∙◌, ap, refl, sym, true≢false}
use Rattle.tl_program.specs.Program.{decl_text}
use Rattle.tl_names.specs.MeantDecls.{MeantDeclView}
use Rattle.tl_schema.specs.UnknownVariable.{in_field}
use Rattle.tl_schema.proofs.UnknownVariables.{another_called, left_uncalled, no_function, only_in_field}
use Rattle.tl_schema.proofs.unknown_variable.MisuseDeclTest.passes.Goals as goal

pub returns-then-calls_another : goal.returns-then-calls_another
returns-then-calls_another c = λ same. (λ h. another_called (decl_text c.args.decl.now) (sym c.calls_another.ensures ∙ c.if-calls_another.true), λ m. refl)

pub returns-then-not-decl : goal.returns-then-not-decl
returns-then-not-decl c = λ same. (
  λ h. absurd (true≢false (sym h)),
  λ m. absurd (no_function (decl_text c.args.decl.now) (sym c.calls_another.ensures ∙ c.if-calls_another.false) c.if-not-decl.true m),
)

pub returns-then-leaves_uncalled : goal.returns-then-leaves_uncalled
returns-then-leaves_uncalled c = λ same. (
  λ h. left_uncalled (decl_text c.args.decl.now) c.if-not-decl.false (sym c.leaves_uncalled.ensures ∙ c.if-leaves_uncalled.true),
  λ m. refl,
)

pub returns : goal.returns
returns c = λ same.
    let names = (rw c.deref.ensures.value at c.is_in_fields.ensures) (decl_text c.args.decl.now) (decl_text c.args.decl.now).fields (ap (λ (m : MeantDeclView). m.fields) same) in (
      λ h. in_field c.if-not-decl.false (names.0 h),
      λ m. names.1 (only_in_field (decl_text c.args.decl.now) (sym c.calls_another.ensures ∙ c.if-calls_another.false) (sym c.leaves_uncalled.ensures ∙ c.if-leaves_uncalled.false) m),
    )
