-- What is answered to the bytes of a schema's file, up to one past the limit, is answered to the file.
use Rattle.std.proofs.Common.{◌≡◌, ℕ, ◌+◌, ◌<◌, List, ◌++◌, length, take, drop, sym, subst, arith, inl, inr}
use Rattle.std.proofs.lemmas.Bool.{cases_lt}
use Rattle.std.proofs.lemmas.List.{take_all, take-append-drop, length-take}
use Rattle.tl_schema.specs.Schemas.{Declared}
use Rattle.outside.specs.Answer.{Answer}
use Rattle.schema_files.specs.Answering.{OfSchemaText}
use Rattle.schema_files.specs.Answering as answering
use Rattle.schema_files.proofs.Schemas.{long_schema}
use Rattle.codec_rooms.specs.Typed.{no_schema, schema_of}

module _ (what : List ℕ) (Of : Declared → Answer → Type 0) where
  long_text : (text rest file : List ℕ) (a : Answer) → file ≡ text ++ rest → 4194304 < length text → OfSchemaText what Of text a → OfSchemaText what Of file a
  long_text text rest file a e long (answering.no_schema cause r is) = answering.no_schema cause (long_schema file text rest cause e long r) is
  long_text text rest file a e long (answering.schema_of s is tells) = absurd (omega (arith, long, is.lexed.0))

  pub text_stays : (file : List ℕ) (a : Answer) → OfSchemaText what Of (take (4194304 + 1) file) a → OfSchemaText what Of file a
  text_stays file a h =
      elim (cases_lt 4194304 (length file)) [
        | inl long ↦ long_text (take (4194304 + 1) file) (drop (4194304 + 1) file) file a (sym (take-append-drop (4194304 + 1) file)) (omega (arith, long, length-take (4194304 + 1) file)) h
        | inr few ↦ subst (λ (l : List ℕ). OfSchemaText what Of l a) (take_all (4194304 + 1) file (omega (arith, few))) h
      ]
