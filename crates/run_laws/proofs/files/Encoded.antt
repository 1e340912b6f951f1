-- A run of `encode`.
use Rattle.std.proofs.Common.{ℕ, ◌+◌, ◌<◌, List, [], codes, length, take, refl, subst, inl, inr, arith}
use Rattle.std.proofs.lemmas.Bool.{cases_lt}
use Rattle.std.proofs.lemmas.List.{take_all, length-take}
use Rattle.tl_base.specs.Contents.{Files}
use Rattle.tl_base.specs.declared.host.Slot.TheVariants.{Schema}
use Rattle.tl_schema.specs.Schemas.{Declared}
use Rattle.tl_schema.specs.Types.{Shape}
use Rattle.outside.specs.Answer.{Answer}
use Rattle.schema_files.specs.declared.json_input.TheConstants.{JSON_BYTES}
use Rattle.codec_commands.specs.Encode.{EncodeAnswer, OfJson, badly_formed, encode_job, misfit, no_json, spelled, too_long}
use Rattle.codec_commands.specs.Typed.{HasPlannedType, OfType, ReachesInput}
use Rattle.codec_commands.proofs.OneEncode.{one_encode}
use Rattle.codec_rooms.specs.Encode.{encodes, encodes_by}
use Rattle.codec_rooms.specs.Typed.{OfInput}
use Rattle.run_laws.specs.Ended.{Anything, RunsJob}
use Rattle.run_laws.proofs.files.Coming.{Comes}
use Rattle.run_laws.proofs.files.Ending.{IsPrinted, done_printed, refused_printed, runs_silent}
use Rattle.run_laws.proofs.files.Schemas.{comes_input, comes_schema, comes_word, file_printed, type_printed}

json_printed : (S : Declared) (T : Shape) (bytes : List ℕ) (a : Answer) → OfJson S T bytes a → IsPrinted a
json_printed S T bytes a (too_long long is) = refused_printed _ a is
json_printed S T bytes a (no_json none is) = refused_printed _ a is
json_printed S T bytes a (badly_formed d path cause json reads is) = refused_printed _ a is
json_printed S T bytes a (misfit d v path cause json reads has is) = refused_printed _ a is
json_printed S T bytes a (spelled d v x json reads spells few is) = done_printed x a is

-- what is answered to the bytes up to one past the limit is answered to all of them
module _ (S : Declared) (T : Shape) where
  long_json : (read file : List ℕ) (a : Answer) → JSON_BYTES < length read → JSON_BYTES < length file → OfJson S T read a → OfJson S T file a
  long_json read file a here there (too_long long is) = too_long there is
  long_json read file a here there (no_json none is) = absurd (omega (arith, here, none.0))
  long_json read file a here there (badly_formed d path cause json reads is) = absurd (omega (arith, here, json.0))
  long_json read file a here there (misfit d v path cause json reads has is) = absurd (omega (arith, here, json.0))
  long_json read file a here there (spelled d v x json reads spells few is) = absurd (omega (arith, here, json.0))

  json_stays : (file : List ℕ) (a : Answer) → OfJson S T (take (JSON_BYTES + 1) file) a → OfJson S T file a
  json_stays file a h = elim (cases_lt JSON_BYTES (length file)) [
    | inl long ↦ long_json (take (JSON_BYTES + 1) file) file a (omega (arith, long, length-take (JSON_BYTES + 1) file)) long h
    | inr few ↦ subst (λ (l : List ℕ). OfJson S T l a) (take_all (JSON_BYTES + 1) file (omega (arith, few))) h
  ]

module _ (schema type input : List ℕ) where
  abbrev Of : Files → Answer → Type 0
  Of files a = EncodeAnswer files schema type input a

  are_printed : (files : Files) (a : Answer) → Of files a → IsPrinted a
  are_printed files a is = file_printed (codes "schema") (λ S b. OfType OfJson S type input files b) (λ S b told. type_printed OfJson json_printed S type input files b told) files schema a is

  comes : Comes (λ s. Of s.view.files) (λ s. ReachesInput s.view.files schema type) (encodes schema type input)
  comes =
      comes_schema (codes "schema") (encodes_by type input) (λ S files. OfType OfJson S type input files) (λ S. HasPlannedType S type)
      (comes_word (OfInput OfJson input JSON_BYTES) OfJson input (λ D T. comes_input OfJson input JSON_BYTES D T (json_stays D T)) type) Schema tt refl schema
      (λ s. ReachesInput s.view.files schema type) (λ s. inl tt) (λ s file S has is came. record { text = file; of = S; there = has; accepted = is; known = came })

  pub encode_runs : RunsJob Anything Anything (encode_job schema type input) [] (encodes schema type input)
  encode_runs =
      runs_silent Of ⊥ (λ v. ReachesInput v.files schema type) are_printed (encodes schema type input) Anything (λ v shown a b. one_encode v.files schema type input a b) comes
