-- The commands over schemas: what each does, and which files it reads. This project's own.
use Rattle.std.specs.Prelude.{ℕ, List, [], ◌∷◌}
use Rattle.tl_base.specs.declared.host.Slot.TheVariants.{Schema, Input}
use Rattle.codec_rooms.specs.Check.{checks}
use Rattle.codec_rooms.specs.Decode.{decodes}
use Rattle.codec_rooms.specs.Encode.{encodes}
use Rattle.codec_rooms.specs.Layers.{compares}
use Rattle.codec_rooms.specs.Laws.{Command}

abbrev pub check : List ℕ → Command
check schema = record { work = checks schema; writes = []; reads = (Schema, schema) ∷ [] }

abbrev pub decode : List ℕ → List ℕ → List ℕ → Command
decode schema type input = record { work = decodes schema type input; writes = []; reads = (Schema, schema) ∷ (Input, input) ∷ [] }

abbrev pub encode : List ℕ → List ℕ → List ℕ → Command
encode schema type input = record { work = encodes schema type input; writes = []; reads = (Schema, schema) ∷ (Input, input) ∷ [] }

-- the old schema is read by the slot Schema, the new one by the slot Input
abbrev pub layers : List ℕ → List ℕ → List ℕ → Command
layers old new type = record { work = compares old new type; writes = []; reads = (Schema, old) ∷ (Input, new) ∷ [] }
