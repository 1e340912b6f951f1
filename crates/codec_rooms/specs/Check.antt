-- What `check` does. This project's own.
use Rattle.std.specs.Prelude.{ℕ, List}
use Rattle.outside.specs.Answer.{done}
use Rattle.outside.specs.declared.status.Status.{Status}
use Rattle.outside.specs.Printing.{Prints}
use Rattle.outside.specs.Steps.{Step}
use Rattle.codec_commands.specs.Check.{listing}
use Rattle.codec_rooms.specs.Typed.{OfCommand, OfSchema}

-- what follows of the schema: the list of its declarations is written
abbrev pub lists : OfSchema
lists schema = Prints (done (listing schema.decls))

-- `check SCHEMA`
abbrev pub checks : List ℕ → Step Status
checks = OfCommand lists
