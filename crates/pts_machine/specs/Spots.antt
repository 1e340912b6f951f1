-- A spot in a list of so many. This project's own.
use Rattle.std.specs.Prelude.{ℕ, ◌<◌, ◌≤◌}
use Rattle.pts_machine.specs.declared.table.Spot.{Spot}
use Rattle.pts_machine.specs.declared.table.Spot.TheVariants.{At, Before}

-- a row stands there, or one may be put there
abbrev pub IsWithin : Spot → ℕ → Type 0
IsWithin (At i) n = i < n
IsWithin (Before i) n = i ≤ n
