-- Laws of `encode`.
use Rattle.std.proofs.Common.{ℕ, List, [], codes, refl, sym, subst, inl, inr}
use Rattle.tl_base.specs.declared.host.Slot.TheVariants.{Schema, Input}
use Rattle.tl_schema.specs.Schemas.{Declared}
use Rattle.tl_schema.specs.Types.{Shape}
use Rattle.outside.specs.Answer.{Answer}
use Rattle.outside.specs.Laws.{Keeps, Explains, HasCause}
use Rattle.outside.specs.Runs.{Runs}
use Rattle.outside.proofs.Causing.{cause_run}
use Rattle.schema_files.specs.declared.json_input.TheConstants.{JSON_BYTES}
use Rattle.codec_commands.specs.Encode.{OfJson, too_long, no_json, badly_formed, misfit, spelled}
use Rattle.codec_rooms.specs.Commands.{encode}
use Rattle.codec_rooms.specs.Encode.{encodes, encodes_by}
use Rattle.codec_rooms.specs.Laws.{Named, IsRead, IsOf}
use Rattle.codec_rooms.specs.Typed.{OfInput}
use Rattle.codec_rooms.proofs.FileLaws.{Touches, touches}
use Rattle.codec_rooms.proofs.TypedLaws.{keeps_word, keeps_input, keeps_named, cause_of_file, cause_word, cause_input}

module _ (schema : Declared) (s : Shape) where
  plain : (bytes : List ℕ) (a : Answer) → OfJson schema s bytes a → Explains a.status []
  plain bytes a (too_long long is) = subst (λ (b : Answer). Explains b.status []) (sym is) tt
  plain bytes a (no_json none is) = subst (λ (b : Answer). Explains b.status []) (sym is) tt
  plain bytes a (badly_formed d path cause json reads is) = subst (λ (b : Answer). Explains b.status []) (sym is) tt
  plain bytes a (misfit d v path cause json reads has is) = subst (λ (b : Answer). Explains b.status []) (sym is) tt
  plain bytes a (spelled d v x json reads spells few is) = subst (λ (b : Answer). Explains b.status []) (sym is) tt

module _ (schema type input : List ℕ) where
  abbrev reads : Named
  reads = (encode schema type input).reads

  keeps : Keeps (IsOf reads) (encodes schema type input)
  keeps =
      let P = IsOf reads in
      let is : IsRead reads Input input = inr (inl (refl, refl)) in
      keeps_named reads Schema schema (inl (refl, refl)) (codes "schema") (encodes_by type input)
      (keeps_word P (λ _. tt) tt (λ _. tt) tt (OfInput OfJson input JSON_BYTES) type (keeps_input P (λ _. tt) tt (λ _. tt) tt OfJson input JSON_BYTES (λ _. is) (λ _. (input, is)) (input, is) (input, is)))

  pub encode_touches : Touches (encode schema type input)
  encode_touches = touches (encode schema type input) keeps

  pub encode_has_cause : HasCause (Runs (encodes schema type input))
  encode_has_cause =
      cause_run (encodes schema type input)
      (cause_of_file Schema refl (codes "schema") (encodes_by type input) schema (cause_word (OfInput OfJson input JSON_BYTES) type (cause_input OfJson plain input JSON_BYTES)))
