-- A program has one answer, and a text.
use Rattle.std.proofs.Common.{◌≡◌, ◌⊎◌, inl, inr, ℕ, suc, ◌<◌, ◌^◌, List, [], ◌∷◌, Option, Some, None, Result, Ok, Err, All, refl, sym, ap₂, ◌∙◌, subst}
use Rattle.std.proofs.lemmas.List.Elements.{All-nil, All-cons}
use Rattle.tl_program.specs.Program.{DeclText}
use Rattle.tl_combinators.proofs.WrittenNumbers.{IsSmall as IsSmallNumber}
use Rattle.tl_schema.specs.Schemas.{Declared}
use Rattle.tl_schema.specs.Meanings.{IsSmall}
use Rattle.tl_schema.specs.CheckCauses.{Passes, RefusedAt}
use Rattle.tl_schema.specs.CheckedPrograms.{IsSchemaOf, Checks, GivesSchema, RefusesProgram}
use Rattle.tl_schema.specs.OneAnswer.{NumbersFit, IsOneSchemaOrRefused, IsOneTypeOrRefused}
use Rattle.tl_schema.specs.declared.fault.CheckCause.{CheckCause}
use Rattle.tl_schema.specs.declared.fault.CheckFault.{CheckFault}
use Rattle.tl_schema.specs.declared.fault.CheckFault.TheVariants.{Refused, Memory}
use Rattle.tl_schema.proofs.CheckOrder.{passed_or_refused, never_refused_and_passed, one_refusal}
use Rattle.tl_schema.proofs.OneSchema.{same_schema, some_schema}
use Rattle.tl_schema.proofs.OneType.{type_or_fault, one_meaning, never_type_and_fault, one_type_fault}

-- ---- numbers

number_fits : (written : Option ℕ) → ((n : ℕ) → written ≡ Some n → n < 2 ^ 32) → IsSmallNumber written
number_fits None h = tt
number_fits (Some n) h = h n refl

abbrev HasSmall : DeclText → Type 0
HasSmall d = IsSmallNumber d.number

numbers_fit : (ds : List DeclText) → NumbersFit ds → All HasSmall ds
numbers_fit [] h = All-nil HasSmall
numbers_fit (d ∷ ds) h = All-cons HasSmall d ds (number_fits d.number (λ n e. h 0 n d refl e)) (numbers_fit ds (λ k. h (suc k)))

module _ (ds : List DeclText) where
  never_both : (schema : Declared) (k : ℕ) (cause : CheckCause) → IsSchemaOf ds schema → RefusedAt ds k cause → ⊥
  never_both schema k cause is refused = never_refused_and_passed ds k cause refused (subst Passes is.1 is.0.passes)

  -- ---- what a check answers is exactly this

  pub gives_schema : (r : Result Declared CheckFault) → Checks ds r → Passes ds → GivesSchema ds r
  gives_schema (Ok schema) h passes = h
  gives_schema (Err (Refused k cause)) h passes = absurd (never_refused_and_passed ds k cause h passes)
  gives_schema (Err Memory) h passes = refl

  pub refuses_program : (r : Result Declared CheckFault) → Checks ds r → (k : ℕ) (cause : CheckCause) → RefusedAt ds k cause → RefusesProgram k cause r
  refuses_program (Ok schema) h k cause refused = never_both schema k cause h refused
  refuses_program (Err (Refused j other)) h k cause refused =
      let same = one_refusal ds j k other cause h refused in inl (ap₂ (λ (i : ℕ) (c : CheckCause). Refused i c) same.0 same.1)
  refuses_program (Err Memory) h k cause refused = inr refl

  -- ---- a program is a schema or is refused

  module _ (few : IsSmall ds) (fit : NumbersFit ds) where
    schema_or_refused : Passes ds ⊎ ((k : ℕ) × (cause : CheckCause) × RefusedAt ds k cause) → ((schema : Declared) × IsSchemaOf ds schema) ⊎ ((k : ℕ) × (cause : CheckCause) × RefusedAt ds k cause)
    schema_or_refused (inl passes) = let some = some_schema ds few passes (numbers_fit ds fit) in inl (some.0, (some.1, some.2))
    schema_or_refused (inr refused) = inr refused

    pub one_schema_or_refused : IsOneSchemaOrRefused ds
    one_schema_or_refused =
        record {
          either = schema_or_refused (passed_or_refused ds);
          never_both = never_both;
          one_schema = λ s u is also. same_schema s u is.0 also.0 (is.1 ∙ sym also.1);
          one_refusal = one_refusal ds;
        }

pub one_type_or_refused : (ds : List DeclText) (text : List ℕ) → IsOneTypeOrRefused ds text
one_type_or_refused ds text =
    record {
      either = type_or_fault ds text;
      never_both = never_type_and_fault ds text;
      one_type = one_meaning ds text;
      one_fault = one_type_fault ds text;
    }
