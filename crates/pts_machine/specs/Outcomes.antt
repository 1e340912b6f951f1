-- What came of an item, by how it was held. This project's own.
use Rattle.std.specs.Prelude.{ℕ}
use Rattle.pts_machine.specs.declared.held.Held.{Held as HowHeld}
use Rattle.pts_machine.specs.declared.held.Held.TheVariants.{Kept, Already as Known, Full}
use Rattle.pts_machine.specs.declared.seen.Seen.{Seen}
use Rattle.pts_machine.specs.declared.seen.Seen.TheVariants.{Already, Held, Dropped}

-- it is held, or was held already, or found no room
abbrev pub seen_by : {E : Type 0} → HowHeld E → Seen
seen_by Kept = Held
seen_by (Known x) = Already
seen_by (Full x) = Dropped

-- how many of n parts of an item are held, by what came of it
abbrev pub kept_by : {E : Type 0} → HowHeld E → ℕ → ℕ
kept_by Kept n = n
kept_by (Known x) n = 0
kept_by (Full x) n = 0
