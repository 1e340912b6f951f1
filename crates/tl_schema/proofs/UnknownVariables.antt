-- Declarations with an unknown variable.
use Rattle.std.proofs.Common.{◌≡◌, ◌==◌, true, false, not, bytes_eq, sym, ◌∙◌, true≢false}
use Rattle.std.specs.List.{count_by}
use Rattle.std.proofs.lemmas.Bool.{not-true, not-false, eqb-false, eqb-true}
use Rattle.tl_program.specs.Program.{DeclText}
use Rattle.tl_names.specs.Writing.{is_variable}
use Rattle.tl_names.specs.Parts.{SomeInFields}
use Rattle.tl_schema.specs.UnknownVariable.{NamesVariable, MisusesVariable, uncalled, no_variable, in_field, calls}
use Rattle.tl_schema.specs.inner.VariableSteps.{calls_another, leaves_uncalled}
use Rattle.tl_schema.proofs.ListParts.{any_found, any_none}

module _ (d : DeclText) where
  pub another_called : calls_another d ≡ true → MisusesVariable d
  another_called h = let (i, name, there, other) = any_found _ _ h in no_variable i name there (not-true _ other)

  pub left_uncalled : d.function ≡ true → leaves_uncalled d ≡ true → MisusesVariable d
  left_uncalled function h = let (i, var, there, other) = any_found _ _ h in uncalled i var function there (eqb-false _ _ (not-true _ other))

  module _ (called : calls_another d ≡ false) where
    -- a constructor misuses none by another way
    pub no_function : d.function ≡ false → MisusesVariable d → ⊥
    no_function constructor (uncalled i var function there other) = true≢false (sym function ∙ constructor)
    no_function constructor (no_variable i name there other) =
        true≢false (sym (not-false _ (any_none (λ n. not (is_variable d n)) (calls d) i name called there)) ∙ other)
    no_function constructor (in_field function named) = true≢false (sym function ∙ constructor)

    -- what is left is a variable in a field's type
    pub only_in_field : leaves_uncalled d ≡ false → MisusesVariable d → SomeInFields (NamesVariable d) d.fields
    only_in_field left (uncalled i var function there other) =
        absurd (other (eqb-true _ _ (not-false _ (any_none (λ v. not (count_by (bytes_eq v) (calls d) == 1)) d.vars i var left there))))
    only_in_field left (no_variable i name there other) =
        absurd (true≢false (sym (not-false _ (any_none (λ n. not (is_variable d n)) (calls d) i name called there)) ∙ other))
    only_in_field left (in_field function named) = named
