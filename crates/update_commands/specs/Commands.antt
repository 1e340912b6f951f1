-- The commands over journals: what each does, and which files it reads. This project's own.
use Rattle.std.specs.Prelude.{ℕ, List, [], ◌∷◌}
use Rattle.tl_base.specs.declared.host.Slot.TheVariants.{Schema, Input}
use Rattle.outside.specs.Begun.{to_output}
use Rattle.codec_rooms.specs.Laws.{Command}
use Rattle.update_commands.specs.MakeWork.{makes}
use Rattle.update_commands.specs.ReplayWork.{replays}

abbrev pub make : List ℕ → ℕ → ℕ → Command
make schema number count = record { work = makes schema number count; writes = []; reads = (Schema, schema) ∷ [] }

-- the journal is read by the slot Input
abbrev pub replay : List ℕ → List ℕ → ℕ → Command
replay schema journal n = record { work = replays schema journal n; writes = to_output; reads = (Schema, schema) ∷ (Input, journal) ∷ [] }
