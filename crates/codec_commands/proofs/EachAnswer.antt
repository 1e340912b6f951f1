-- Files of bytes have an answer to `check`, to `decode` and to `encode`.
use Rattle.std.proofs.Common.{◌≡◌, ℕ, ◌≤◌, List, [], ◌∷◌, ◌++◌, codes, length, append-nil, Option, Some, None, Ok, Err, Bool, true, false, true≢false, refl, sym, ◌∙◌, subst, inl, inr, arith}
use Rattle.std.proofs.lemmas.Bool.{cases_lt}
use Rattle.std.proofs.lemmas.Str.{IsUtf8-from_is_utf8, is_utf8-from_IsUtf8}
use Rattle.std.specs.Prelude.{IsUtf8}
use Rattle.std.specs.Str.{is_utf8}
use Rattle.serde_json.specs.Data.{Data}
use Rattle.serde_json.specs.Read.{read as read_text}
use Rattle.tl_numbers.specs.Bytes.{AreBytes}
use Rattle.tl_base.specs.Contents.{Files, HoldBytes}
use Rattle.tl_base.specs.Outside.{IsFile}
use Rattle.tl_schema.specs.Types.{Shape}
use Rattle.tl_schema.specs.Schemas.{Declared}
use Rattle.tl_schema.specs.CheckedPrograms.{IsSchema}
use Rattle.tl_schema.specs.Formed.{IsFormed}
use Rattle.tl_types.specs.Values.{ValueView, depth}
use Rattle.tl_types.specs.Spelling.{Spells}
use Rattle.tl_types.specs.Fitting as fitting
use Rattle.tl_types.proofs.Exactly.{exactly_one}
use Rattle.tl_types.proofs.FitsAreSpelled.{each_fits_exactly}
use Rattle.tl_types.specs.declared.value.TheConstants.{MAX_LEVELS}
use Rattle.tl_show.specs.Reading.{read, Read}
use Rattle.outside.specs.Answer.{Answer, done}
use Rattle.outside.proofs.SameFiles.{file_bytes}
use Rattle.codec_commands.specs.Check.{listing, CheckAnswer}
use Rattle.codec_commands.specs.Typed.{ToInput, OfType, no_type, no_plan, typed, TypedAnswer}
use Rattle.codec_commands.specs.Decode.{OfInput, whole, longer, faulty, DecodeAnswer}
use Rattle.schema_files.specs.JsonInput.{IsJson}
use Rattle.codec_commands.specs.Encode.{OfJson, too_long, no_json, badly_formed, misfit, spelled, EncodeAnswer}
use Rattle.schema_files.specs.declared.json_input.TheConstants.{JSON_BYTES}
use Rattle.tl_schema.proofs.AskedFormed.{text_formed}
use Rattle.schema_files.proofs.Answering.{each_of_file}
use Rattle.schema_files.proofs.OneTypeName.{type_or_refused}
use Rattle.schema_files.proofs.TypePlans.{plan_or_refused}

-- ---- check

pub each_check : (files : Files) (schema : List ℕ) → IsFile files schema → (a : Answer) × CheckAnswer files schema a
each_check = each_of_file (codes "schema") (λ S b. b ≡ done (listing S.decls)) (λ S good. (_, refl))

-- ---- schema, type and input

-- bytes have an answer, of each formed type of a schema
abbrev TellsEach : ToInput → Type 0
TellsEach Tells = (schema : Declared) → IsSchema schema → (T : Shape) → IsFormed schema T → (bytes : List ℕ) → AreBytes bytes → (a : Answer) × Tells schema T bytes a

module _ (Tells : ToInput) (each_input : TellsEach Tells) (files : Files) (good : HoldBytes files) where
  each_type : (type input : List ℕ) → IsFile files input → (schema : Declared) → IsSchema schema → (a : Answer) × OfType Tells schema type input files a
  each_type type input (bytes, has) schema sound = elim (type_or_refused schema type) [
    | inl (s, means) ↦ elim (plan_or_refused schema s) [
      | inl plan ↦ (let tells = each_input schema sound s (text_formed schema sound type s means) bytes (file_bytes files input bytes good has) in (tells.0, typed s bytes means plan has tells.1))
      | inr (cause, none) ↦ (_, no_plan s cause means none refl)
    ]
    | inr (cause, r) ↦ (_, no_type cause r refl)
  ]

  each_typed : (schema type input : List ℕ) → IsFile files schema → IsFile files input → (a : Answer) × TypedAnswer Tells files schema type input a
  each_typed schema type input text file = each_of_file (codes "schema") (λ S. OfType Tells S type input files) (each_type type input file) files schema text

-- ---- decode

module _ (schema : Declared) (good : IsSchema schema) (T : Shape) (formed : IsFormed schema T) (bytes : List ℕ) where
  spelled_first : (v : ValueView) (x rest : List ℕ) → bytes ≡ x ++ rest → Spells schema T v x → depth v ≤ MAX_LEVELS → (a : Answer) × OfInput schema T bytes a
  spelled_first v x [] split s d = (_, whole v (subst (Spells schema T v) (sym (split ∙ append-nil x)) s) d refl)
  spelled_first v x (b ∷ rest) split s d = (_, longer v x rest b split s d refl)

  each_spelling : AreBytes bytes → (a : Answer) × OfInput schema T bytes a
  each_spelling are = elim (exactly_one schema good MAX_LEVELS T bytes formed are).either [
    | inl (v, x, (rest, split, s, d)) ↦ spelled_first v x rest split s d
    | inr (at, why, r) ↦ (_, faulty at why r refl)
  ]

pub each_decode : (files : Files) → HoldBytes files → (schema type input : List ℕ) → IsFile files schema → IsFile files input → (a : Answer) × DecodeAnswer files schema type input a
each_decode = each_typed OfInput each_spelling

-- ---- encode

module _ (schema : Declared) (good : IsSchema schema) (T : Shape) (formed : IsFormed schema T) (bytes : List ℕ) where
  of_fit : (d : Data) (v : ValueView) → IsJson bytes d → read schema.decls T d ≡ Ok v → (m : Option fitting.MisfitView) → fitting.misfit schema.decls MAX_LEVELS None T v ≡ m
      → (a : Answer) × OfJson schema T bytes a
  of_fit d v json reads None fits = let s = (each_fits_exactly schema good MAX_LEVELS T v formed).spelled fits in (_, spelled d v s.0 json reads s.1 s.2 refl)
  of_fit d v json reads (Some (path, cause)) has = (_, misfit d v path cause json reads has refl)

  of_read : (d : Data) → IsJson bytes d → (r : Read ValueView) → read schema.decls T d ≡ r → (a : Answer) × OfJson schema T bytes a
  of_read d json (Ok v) reads = of_fit d v json reads _ refl
  of_read d json (Err (path, cause)) reads = (_, badly_formed d path cause json reads refl)

  of_text : length bytes ≤ JSON_BYTES → IsUtf8 bytes → (o : Option Data) → read_text bytes ≡ o → (a : Answer) × OfJson schema T bytes a
  of_text few utf8 None is = (_, no_json (few, λ _. is) refl)
  of_text few utf8 (Some d) is = of_read d (few, utf8, is) _ refl

  of_few : length bytes ≤ JSON_BYTES → (u : Bool) → is_utf8 bytes ≡ u → (a : Answer) × OfJson schema T bytes a
  of_few few true is = of_text few (IsUtf8-from_is_utf8 bytes is) _ refl
  of_few few false is = (_, no_json (few, λ utf8. absurd (true≢false (sym (is_utf8-from_IsUtf8 bytes utf8) ∙ is))) refl)

  pub each_text : (a : Answer) × OfJson schema T bytes a
  each_text = elim (cases_lt JSON_BYTES (length bytes)) [ inl long ↦ (_, too_long long refl) | inr few ↦ of_few (omega (arith, few)) _ refl ]

each_json : TellsEach OfJson
each_json schema good T formed bytes are = each_text schema good T formed bytes

pub each_encode : (files : Files) → HoldBytes files → (schema type input : List ℕ) → IsFile files schema → IsFile files input → (a : Answer) × EncodeAnswer files schema type input a
each_encode = each_typed OfJson each_json
