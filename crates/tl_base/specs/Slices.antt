-- Bytes that lie in memory, as a source. This project's own.
use Rattle.std.specs.Prelude.{◌≡◌, ◌<◌, ℕ, List, [], length, drop, Bool, true, false, Some}
use Rattle.tl_base.specs.Using.{SourceState, nothing_aside}

-- what is left after so many
abbrev pub slice_state : ℕ → List ℕ → SourceState
slice_state at bytes = record { left = Some (drop at bytes); faults = 0; aside = nothing_aside; sound = true }

-- whether there is nothing left
abbrev pub IsEnd : List ℕ → Bool → Type 0
IsEnd rest true = rest ≡ []
IsEnd rest false = 0 < length rest
