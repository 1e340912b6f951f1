-- A packet that is sent back. This project's own.
use Rattle.std.specs.Prelude.{◌≡◌, ℕ, List, [], Bool, true, false, Option, Some, None}
use Rattle.std.specs.Io.KnownBytes.{Appends, Consumes}
use Rattle.tl_base.specs.Packets.{packet}

-- What is taken of a link that tells its bytes is what is written; where the link has ended nothing is.
abbrev pub Echoes : Option (List ℕ) → Option (List ℕ) → Option (List ℕ) → Option (List ℕ) → Bool → Type 0
Echoes None left before after some = Unit {0}
Echoes (Some bytes) left before after true = (piece : List ℕ) × Consumes (Some bytes) left (packet piece) × Appends before after (packet piece)
Echoes (Some bytes) left before after false = (bytes ≡ []) × (after ≡ before)
