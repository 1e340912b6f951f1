-- The events from a number of a box on. This project's own.
use Rattle.std.specs.Prelude.{◌≡◌, ℕ, ◌+◌, ◌<◌, ◌≤◌, List, [], ◌++◌, Option, Some, None}
use Rattle.box_events.specs.Events.{EventView}
use Rattle.box_events.specs.Boxes.{ending, AreCounted}
use Rattle.box_events.specs.BoxViews.{BoxView, end_of, IsBoundaryOf, BetweenOf}

-- from a number on: all that follows; none where the number is no boundary
abbrev pub SuffixAt : BoxView → ℕ → Option (List EventView) → Type 0
SuffixAt b at None = IsBoundaryOf b at → ⊥
SuffixAt b at (Some xs) = BetweenOf b at (end_of b) xs

-- from a number on: a stretch that is empty at the box's end alone, of a box whose events count for 1 number at least; none where the number is
-- no boundary
abbrev pub RunAt : BoxView → ℕ → Option (List EventView) → Type 0
RunAt b at None = IsBoundaryOf b at → ⊥
RunAt b at (Some xs) = BetweenOf b at (at + ending xs) xs × (xs ≡ [] → at ≡ end_of b) × AreCounted b.events

-- the stretch from `at` to `end`, which is past `at` and not past `to`, stands after what was there
pub record Copies (b : BoxView) (at to : ℕ) (old new : List EventView) (end : ℕ) : Type 0 where
  pub copied : List EventView
  pub whole : new ≡ old ++ copied
  pub stretch : BetweenOf b at end copied
  pub past : at < end
  pub within : end ≤ to
  pub counted : AreCounted b.events
