-- That whatever is done with a type can go on to its end.
use Rattle.std.proofs.Common.{ℕ, List, []}
use Rattle.tl_schema.specs.CheckedPrograms.{IsSchema}
use Rattle.tl_schema.specs.Formed.{IsFormed}
use Rattle.tl_schema.specs.Schemas.{Declared}
use Rattle.tl_schema.specs.Types.{Shape}
use Rattle.outside.specs.Steps.{Begins}
use Rattle.schema_files.specs.declared.json_input.TheConstants.{JSON_BYTES}
use Rattle.tl_schema.proofs.AskedFormed.{text_formed}
use Rattle.codec_commands.specs.Encode.{OfJson}
use Rattle.codec_rooms.specs.Decode.{OfBytes}
use Rattle.codec_rooms.specs.Typed.{OfInput}
use Rattle.codec_rooms.specs.declared.typed.Purpose.{Purpose}
use Rattle.codec_rooms.specs.declared.typed.Purpose.TheVariants as purpose
use Rattle.codec_rooms.specs.inner.Purposes.{asked_by, of_type}
use Rattle.codec_rooms.proofs.Decoding.{can_bytes}
use Rattle.codec_rooms.proofs.Encoding.{can_input}
use Rattle.codec_rooms.proofs.Layering.{can_file}
use Rattle.codec_rooms.proofs.Typing.{can_asked, can_plan}

pub can_type : (p : Purpose) (input : List ℕ) (schema : Declared) → IsSchema schema → (s : Shape) → IsFormed schema s → Begins (of_type p input schema s) []
can_type purpose.Decode input schema good s formed = can_plan (OfBytes input) schema s (can_bytes input schema s)
can_type purpose.Encode input schema good s formed = can_plan (OfInput OfJson input JSON_BYTES) schema s (can_input schema good input s formed)
can_type purpose.Compare input schema good s formed = can_file schema good s formed input

pub can_follow : (p : Purpose) (word input : List ℕ) (schema : Declared) → IsSchema schema → Begins (asked_by p word input schema) []
can_follow p word input schema good = can_asked (of_type p input) schema word (λ s is. can_type p input schema good s (text_formed schema good word s is))
