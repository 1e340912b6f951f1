-- What is made of texts and bytes is what the program answers over files that have them.
use Rattle.std.proofs.Common.{ℕ, List, [], ◌∷◌, Ok, Err, codes, refl, ap, inl, inr, arith}
use Rattle.tl_base.specs.Contents.{Files}
use Rattle.tl_base.specs.Outside.{HasFile}
use Rattle.tl_schema.specs.Types.{Shape}
use Rattle.tl_schema.specs.Schemas.{Declared}
use Rattle.outside.specs.Answer.{Answer, done, refused}
use Rattle.outside.proofs.Loaded.{refuses_as}
use Rattle.schema_files.specs.Answering as answering
use Rattle.schema_files.specs.Loaded.{IsSchemaText}
use Rattle.schema_files.specs.Parts.{TellsJson, TellsSchema}
use Rattle.codec_commands.specs.Decode as decode
use Rattle.codec_commands.specs.Encode as encode
use Rattle.codec_commands.specs.Typed.{OfType, ToInput, TypedAnswer, no_plan, no_type, typed}
use Rattle.codec_commands.proofs.EncodedValues.{refused_json}
use Rattle.codec_commands.specs.Layers as layers
use Rattle.tl_codec.specs.Codings.{Decodes, Encodes, IsLine, IsSpelling, Made, TellsBytes, faulty, longer}
use Rattle.tl_codec.specs.Typings.{IsPlannedType, TellsName}
use Rattle.tl_codec.specs.Comparing as comparing
use Rattle.tl_codec.specs.Laws.{ComparesAlike, EachAnswersAlike, RefusesAlike}

-- ---- what is made of an input

module _ (schema : Declared) (T : Shape) (bytes : List ℕ) where
  line_alike : (line : List ℕ) → IsLine schema T bytes line → decode.OfInput schema T bytes (done line)
  line_alike line (v, spells, deep, is) = decode.whole v spells deep (ap done is)

  bytes_alike : (line : List ℕ) → TellsBytes schema T bytes line → decode.OfInput schema T bytes (refused line)
  bytes_alike line (longer v x [] split more spells deep is) = absurd (omega (arith, more))
  bytes_alike line (longer v x (b ∷ rest) split more spells deep is) = decode.longer v x rest b split spells deep (ap refused is)
  bytes_alike line (faulty at why refuses is) = decode.faulty at why refuses (ap refused is)

  spelling_alike : (out : List ℕ) → IsSpelling schema T bytes out → encode.OfJson schema T bytes (done out)
  spelling_alike out (v, (d, json, reads), spells, deep) = encode.spelled d v out json reads spells deep refl

-- ---- over files

module _ (files : Files) (name text : List ℕ) (has : HasFile files name text) where
  no_schema_there : (Then : Declared → Answer → Type 0) (line : List ℕ) → TellsSchema (codes "schema") text line → answering.OfSchemaFile (codes "schema") Then files name (refused line)
  no_schema_there Then line (cause, why, is) = (text, has, answering.no_schema cause why (ap refused is))

  module _ (schema : Declared) (is : IsSchemaText text schema) (type input given : List ℕ) (there : HasFile files input given) where
    of_type : (Tells : ToInput) (a : Answer) → OfType Tells schema type input files a → TypedAnswer Tells files name type input a
    of_type Tells a h = (text, has, answering.schema_of schema is h)

    unnamed_type : (Tells : ToInput) (line : List ℕ) → TellsName schema type line → OfType Tells schema type input files (refused line)
    unnamed_type Tells line (inl (cause, why, is)) = no_type cause why (ap refused is)
    unnamed_type Tells line (inr (T, means, (cause, why, is))) = no_plan T cause means why (ap refused is)

    module _ (T : Shape) (planned : IsPlannedType schema type T) where
      told : (Tells : ToInput) (a : Answer) → Tells schema T given a → TypedAnswer Tells files name type input a
      told Tells a h = of_type Tells a (typed T given planned.0 planned.1 there h)

      decoded_alike : (made : Made) → Decodes schema T given made → comparing.MakesAnswer (decode.DecodeAnswer files name type input) made
      decoded_alike (Ok out) h = told decode.OfInput (done out.items) (line_alike schema T given out.items h)
      decoded_alike (Err fault) h =
          refuses_as (TellsBytes schema T given) (λ line. decode.DecodeAnswer files name type input (refused line)) fault (λ line tells. told decode.OfInput (refused line) (bytes_alike schema T given line tells)) h

      encoded_alike : (made : Made) → Encodes schema T given made → comparing.MakesAnswer (encode.EncodeAnswer files name type input) made
      encoded_alike (Ok out) h = told encode.OfJson (done out.items) (spelling_alike schema T given out.items h)
      encoded_alike (Err fault) h =
          refuses_as (TellsJson schema T given) (λ line. encode.EncodeAnswer files name type input (refused line)) fault (λ line tells. told encode.OfJson (refused line) (refused_json schema T given line tells)) h

pub refuses_alike : RefusesAlike
refuses_alike files name text type input line has tells =
    (no_schema_there files name text has _ line tells, no_schema_there files name text has _ line tells, no_schema_there files name text has _ line tells)

pub each_answers_alike : EachAnswersAlike
each_answers_alike files name text type input given schema has is there = record {
  checked = (text, has, answering.schema_of schema is refl);
  unnamed = λ line tells. (
    of_type files name text has schema is type input given there decode.OfInput (refused line) (unnamed_type files name text has schema is type input given there decode.OfInput line tells),
    of_type files name text has schema is type input given there encode.OfJson (refused line) (unnamed_type files name text has schema is type input given there encode.OfJson line tells),
  );
  decoded = λ T made planned h. decoded_alike files name text has schema is type input given there T planned made h;
  encoded = λ T made planned h. encoded_alike files name text has schema is type input given there T planned made h;
}

type_alike : (files : Files) (n new type : List ℕ) (schema : Declared) (a : Answer) → HasFile files n new → comparing.OfTypeText schema new type a → layers.OfType schema type n files a
type_alike files n new type schema a has (comparing.no_type cause why is) = layers.no_type cause why is
type_alike files n new type schema a has (comparing.typed T means tells) = layers.typed T means (new, has, tells)

pub compares_alike : ComparesAlike
compares_alike files o n old new type a has there (answering.no_schema cause why is) = (old, has, answering.no_schema cause why is)
compares_alike files o n old new type a has there (answering.schema_of schema is tells) = (old, has, answering.schema_of schema is (type_alike files n new type schema a there tells))
