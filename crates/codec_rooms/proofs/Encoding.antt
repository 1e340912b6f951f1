-- That `encode` can go on to its end from each of its parts.
use Rattle.std.proofs.Common.{ℕ, List, [], Option, Some, None}
use Rattle.tl_schema.specs.CheckedPrograms.{IsSchema}
use Rattle.tl_base.specs.declared.host.Slot.TheVariants.{Input}
use Rattle.tl_schema.specs.Formed.{IsFormed}
use Rattle.tl_schema.specs.Schemas.{Declared}
use Rattle.tl_schema.specs.Types.{Shape}
use Rattle.outside.specs.Steps.{Begins}
use Rattle.outside.proofs.Growing.{can_then}
use Rattle.outside.proofs.Piecewise.{can_tell, can_read_file}
use Rattle.outside.proofs.Printed.{can_answer}
use Rattle.schema_files.specs.declared.json_input.TheConstants.{JSON_BYTES}
use Rattle.codec_commands.specs.Encode.{OfJson}
use Rattle.codec_commands.proofs.EachAnswer as each
use Rattle.codec_rooms.specs.Typed.{after_input, OfInput}

module _ (schema : Declared) (good : IsSchema schema) where
  pub can_tell_json : (s : Shape) → IsFormed schema s → (bytes : Option (List ℕ)) → Begins (after_input OfJson schema s bytes) []
  can_tell_json s formed (Some bytes) = let a = each.each_text schema good s formed bytes in can_answer (OfJson schema s bytes) a.0 a.1
  can_tell_json s formed None = can_tell _ _

  pub can_input : (input : List ℕ) (s : Shape) → IsFormed schema s → Begins (OfInput OfJson input JSON_BYTES schema s) []
  can_input input s formed = can_then _ _ (can_read_file Input input JSON_BYTES) (can_tell_json s formed)
