-- What is answered once a schema is loaded: it is one answer, it is there, and it is made by what comes then.
use Rattle.std.proofs.Common.{◌≡◌, ℕ, List, refl, sym, ap, ◌∙◌, subst, inl, inr}
use Rattle.tl_base.specs.Contents.{Files}
use Rattle.tl_base.specs.Outside.{HasFile}
use Rattle.tl_schema.specs.Schemas.{Declared}
use Rattle.tl_schema.specs.CheckedPrograms.{IsSchema}
use Rattle.outside.specs.Answer.{Answer, refused}
use Rattle.outside.proofs.SameFiles.{same_file}
use Rattle.schema_files.specs.Answering.{OfSchemaText, no_schema, schema_of, OfSchemaFile}
use Rattle.schema_files.specs.Causes.{SchemaCause}
use Rattle.schema_files.specs.Lines.{schema_line}
use Rattle.schema_files.specs.Loaded.{IsSchemaText}
use Rattle.schema_files.proofs.OneSchemaText.{one_schema_text, one_schema_cause, never_schema, schema_or_refused}

module _ (what : List ℕ) (Then : Declared → Answer → Type 0) where
  -- ---- one answer

  module _ (one : (schema : Declared) → IsSchema schema → (a b : Answer) → Then schema a → Then schema b → a ≡ b) where
    pub one_of_text : (text : List ℕ) (a b : Answer) → OfSchemaText what Then text a → OfSchemaText what Then text b → a ≡ b
    one_of_text text a b (no_schema c r is) (no_schema d k at) = is ∙ ap (λ (x : SchemaCause). refused (schema_line what x)) (one_schema_cause text c d r k) ∙ sym at
    one_of_text text a b (no_schema c r is) (schema_of s h tells) = absurd (never_schema text s c h r)
    one_of_text text a b (schema_of s h tells) (no_schema c r is) = absurd (never_schema text s c h r)
    one_of_text text a b (schema_of s h tells) (schema_of u k says) = one s h.good a b tells (subst (λ (x : Declared). Then x b) (sym (one_schema_text text s u h k)) says)

    pub one_of_file : (files : Files) (name : List ℕ) (a b : Answer) → OfSchemaFile what Then files name a → OfSchemaFile what Then files name b → a ≡ b
    one_of_file files name a b (text, has, h) (other, also, k) =
        one_of_text text a b h (subst (λ (x : List ℕ). OfSchemaText what Then x b) (same_file files name other text also has) k)

  -- ---- an answer

  module _ (each : (schema : Declared) → IsSchema schema → (a : Answer) × Then schema a) where
    pub each_of_text : (text : List ℕ) → (a : Answer) × OfSchemaText what Then text a
    each_of_text text = elim (schema_or_refused text) [
      | inl (schema, is) ↦ (let tells = each schema is.good in (tells.0, schema_of schema is tells.1))
      | inr (cause, r) ↦ (_, no_schema cause r refl)
    ]

    pub each_of_file : (files : Files) (name : List ℕ) → (text : List ℕ) × HasFile files name text → (a : Answer) × OfSchemaFile what Then files name a
    each_of_file files name (text, has) = let tells = each_of_text text in (tells.0, (text, has, tells.1))

  -- ---- the schema that was loaded is the answer's

  of_text : (text : List ℕ) (schema : Declared) (a : Answer) → IsSchemaText text schema → OfSchemaText what Then text a → Then schema a
  of_text text schema a h (no_schema cause r is) = absurd (never_schema text schema cause h r)
  of_text text schema a h (schema_of other k tells) = subst (λ (x : Declared). Then x a) (one_schema_text text other schema k h) tells

  pub of_schema : (files : Files) (name text : List ℕ) (schema : Declared) (a : Answer) → HasFile files name text → IsSchemaText text schema → OfSchemaFile what Then files name a → Then schema a
  of_schema files name text schema a has h (other, also, tells) = of_text text schema a h (subst (λ (x : List ℕ). OfSchemaText what Then x a) (same_file files name other text also has) tells)

-- ---- loading

-- what the rest comes to is come to by the whole
