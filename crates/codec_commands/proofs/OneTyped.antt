-- What a command answers to a schema, a type and an input is one, where what it answers to an input is.
use Rattle.std.proofs.Common.{◌≡◌, ℕ, List, codes, sym, ap, ◌∙◌, subst}
use Rattle.tl_base.specs.Contents.{Files}
use Rattle.tl_schema.specs.Types.{Shape}
use Rattle.tl_schema.specs.Schemas.{Declared}
use Rattle.tl_schema.specs.CheckedPrograms.{IsSchema}
use Rattle.tl_schema.specs.Formed.{IsFormed}
use Rattle.tl_schema.proofs.OneType.{one_meaning}
use Rattle.outside.specs.Answer.{Answer, refused}
use Rattle.outside.proofs.SameFiles.{same_file}
use Rattle.schema_files.specs.Causes.{TypeNameCause}
use Rattle.schema_files.specs.Causes.{PlanCause}
use Rattle.schema_files.specs.Lines.{type_line, plan_line}
use Rattle.codec_commands.specs.Typed.{ToInput, OfType, no_type, no_plan, typed, TypedAnswer}
use Rattle.schema_files.proofs.Answering.{one_of_file}
use Rattle.tl_schema.proofs.AskedFormed.{text_formed}
use Rattle.schema_files.proofs.OneTypeName.{one_type_cause, never_type}
use Rattle.schema_files.specs.Loaded.{HasPlan, PlanRefused}
use Rattle.schema_files.proofs.TypePlans.{one_plan_cause, never_plan}

-- bytes have one answer at most, of each formed type of a schema
abbrev pub TellsOne : ToInput → Type 0
TellsOne Tells = (schema : Declared) → IsSchema schema → (T : Shape) → IsFormed schema T → (bytes : List ℕ) (a c : Answer) → Tells schema T bytes a → Tells schema T bytes c → a ≡ c

module _ (Tells : ToInput) (one_input : TellsOne Tells) (files : Files) where
  one_type : (type input : List ℕ) (schema : Declared) → IsSchema schema → (a c : Answer) → OfType Tells schema type input files a → OfType Tells schema type input files c → a ≡ c
  one_type type input schema good a c (no_type b r is) (no_type d s at) = is ∙ ap (λ (x : TypeNameCause). refused (type_line x)) (one_type_cause schema type b d r s) ∙ sym at
  one_type type input schema good a c (no_type b r is) (no_plan s d means lacks at) = absurd (never_type schema type s b means r)
  one_type type input schema good a c (no_type b r is) (typed s bytes means plan has tells) = absurd (never_type schema type s b means r)
  one_type type input schema good a c (no_plan s b means lacks is) (no_type d r at) = absurd (never_type schema type s d means r)
  one_type type input schema good a c (no_plan s b means lacks is) (no_plan u d also none at) =
      let same : u ≡ s = one_meaning schema.program type u s also means in
      is ∙ ap (λ (x : PlanCause). refused (plan_line x)) (one_plan_cause schema s b d lacks (subst (λ (x : Shape). PlanRefused schema x d) same none)) ∙ sym at
  one_type type input schema good a c (no_plan s b means lacks is) (typed u more also plan holds says) =
      absurd (never_plan schema s b (subst (HasPlan schema) (one_meaning schema.program type u s also means) plan) lacks)
  one_type type input schema good a c (typed s bytes means plan has tells) (no_type b r is) = absurd (never_type schema type s b means r)
  one_type type input schema good a c (typed s bytes means plan has tells) (no_plan u d also none at) =
      absurd (never_plan schema u d (subst (HasPlan schema) (one_meaning schema.program type s u means also) plan) none)
  one_type type input schema good a c (typed s bytes means plan has tells) (typed u more also planned holds says) =
      let same : u ≡ s = one_meaning schema.program type u s also means in
      let contents : more ≡ bytes = same_file files input more bytes holds has in
      let there = subst (λ (x : Shape). Tells schema x bytes c) same (subst (λ (z : List ℕ). Tells schema u z c) contents says) in
      one_input schema good s (text_formed schema good type s means) bytes a c tells there

  pub one_typed : (s t i : List ℕ) (a c : Answer) → TypedAnswer Tells files s t i a → TypedAnswer Tells files s t i c → a ≡ c
  one_typed s t i = one_of_file (codes "schema") (λ S. OfType Tells S t i files) (one_type t i) files s
