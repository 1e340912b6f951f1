-- What is found at a number of a box. This project's own.
use Rattle.std.specs.Prelude.{◌+◌, ℕ, [], ◌∷◌, Option, Some, None}
use Rattle.box_events.specs.Events.{EventView, count_of}
use Rattle.box_events.specs.BoxViews.{BoxView, BetweenOf}

-- the event that starts at the number; none where none does
abbrev pub EventAt : BoxView → ℕ → Option EventView → Type 0
EventAt b at None = (e : EventView) → BetweenOf b at (at + count_of e) (e ∷ []) → ⊥
EventAt b at (Some e) = BetweenOf b at (at + count_of e) (e ∷ [])
