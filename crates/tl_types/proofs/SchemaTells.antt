-- What is used of a schema holds of each.
use Rattle.tl_schema.specs.Schemas.{Declared}
use Rattle.tl_schema.specs.CheckedPrograms.{IsSchema}
use Rattle.tl_schema.proofs.FieldsFormed.{fields_are_formed}
use Rattle.tl_schema.proofs.ClosedFormed.{closing_keeps_formed}
use Rattle.tl_types.proofs.FormedParts.{PartsTell, parts_tell}
use Rattle.tl_types.proofs.SchemaNumbers.{numbers_tell}

pub schema_tells : (schema : Declared) → IsSchema schema → PartsTell schema
schema_tells schema good = parts_tell fields_are_formed closing_keeps_formed schema good (numbers_tell schema good)
