-- The fields of a declaration of a schema can be counted in 32 bits.
use Rattle.std.proofs.Common.{◌≡◌, inl, inr, ℕ, ◌<◌, ◌^◌, length, Some, slice_get, ap, ◌∙◌, arith}
use Rattle.std.proofs.lemmas.List.{length-map}
use Rattle.std.proofs.lemmas.Option.{slice_get_cases, slice_get_within}
use Rattle.tl_program.specs.Program.{DeclText}
use Rattle.tl_names.specs.Writing.{At}
use Rattle.tl_schema.specs.Schemas.{Declaration, Declared}
use Rattle.tl_schema.specs.CheckedPrograms.{IsSchema}
use Rattle.tl_schema.specs.Meanings.{slot_of}

module _ (schema : Declared) (good : IsSchema schema) where
  written : (k : ℕ) (e : Declaration) → slice_get schema.decls k ≡ Some e → (d : DeclText) × At schema.program k d
  written k e at = elim (slice_get_cases schema.program k).1 [
    | inl (d, below, here, is) ↦ (d, here)
    | inr (past, none) ↦ absurd (let within = slice_get_within schema.decls k e at in omega (arith, within, past, good.count))
  ]

  pub few_fields : (k : ℕ) (e : Declaration) → slice_get schema.decls k ≡ Some e → length e.fields < 2 ^ 32
  few_fields k e at =
      let d = written k e at in
      let same : length e.fields ≡ length (d.0).fields =
      ap (λ (x : Declaration). length x.fields) (good.entries k d.0 e d.1 at).1 ∙ length-map (d.0).fields (slot_of schema.program d.0) in
      omega (arith, same, good.small.fields k d.0 d.1)
