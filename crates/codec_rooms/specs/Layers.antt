-- What `layers` does. This project's own.
use Rattle.std.specs.Prelude.{ℕ, List, codes}
use Rattle.tl_base.specs.declared.host.Slot.TheVariants.{Input}
use Rattle.tl_schema.specs.Types.{Shape}
use Rattle.tl_schema.specs.Schemas.{Declared}
use Rattle.outside.specs.declared.status.Status.{Status}
use Rattle.outside.specs.Printing.{Answers}
use Rattle.outside.specs.Steps.{Step}
use Rattle.codec_commands.specs.Layers.{OfLayers}
use Rattle.codec_rooms.specs.Typed.{OfAsked, OfCommand, OfFile, OfSchema, OfType}

-- what follows of the old schema, its type and the new schema
abbrev pub compared : Declared → Shape → OfSchema
compared old T new = Answers (OfLayers old new T)

-- what follows of a type of the old schema: the new schema's file is read
abbrev pub OfNew : List ℕ → OfType
OfNew new old T = OfFile Input (codes "new") (compared old T) new

-- `layers OLD NEW TYPE`
abbrev pub compares : List ℕ → List ℕ → List ℕ → Step Status
compares old new type = OfCommand (OfAsked (OfNew new) type) old
