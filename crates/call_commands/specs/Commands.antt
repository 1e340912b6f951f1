-- The command `calls`: what it does, and which files it reads. This project's own.
use Rattle.std.specs.Prelude.{ℕ, List, [], ◌∷◌}
use Rattle.tl_base.specs.declared.host.Slot.TheVariants.{Schema, Input}
use Rattle.outside.specs.Begun.{to_output}
use Rattle.codec_rooms.specs.Laws.{Command}
use Rattle.call_commands.specs.CallsWork.{tells_calls}

abbrev pub calls : List ℕ → List ℕ → Command
calls schema input = record { work = tells_calls schema input; writes = to_output; reads = (Schema, schema) ∷ (Input, input) ∷ [] }
