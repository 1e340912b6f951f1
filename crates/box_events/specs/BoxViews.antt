-- Boxes of which only the last events may be kept: where they end, their boundaries and stretches, and what keeps the last events.
-- From "Working with Updates" (core.telegram.org/api/updates), as the definitions of lists of events. That a box may drop its first events is
-- this project's own.
use Rattle.std.specs.Prelude.{◌≡◌, ℕ, ◌+◌, ◌-◌, ◌≤◌, List, length, take, drop}
use Rattle.box_events.specs.Events.{EventView}
use Rattle.box_events.specs.Boxes.{ending, IsBoundary, Between}

-- the number at which the kept events begin, these events, and how many more may be appended without memory
pub record BoxView : Type 0 where
  pub first : ℕ
  pub events : List EventView
  pub spare : ℕ

-- where a box ends
abbrev pub end_of : BoxView → ℕ
end_of b = b.first + ending b.events

-- some prefix of the kept events ends at p
abbrev pub IsBoundaryOf : BoxView → ℕ → Type 0
IsBoundaryOf b p = (b.first ≤ p) × IsBoundary b.events (p - b.first)

-- of the kept events these lie between p and q
abbrev pub BetweenOf : BoxView → ℕ → ℕ → List EventView → Type 0
BetweenOf b p q events = (b.first ≤ p) × (p ≤ q) × Between b.events (p - b.first) (q - b.first) events

-- all but the last n events go; the box begins where these ended, and ends where it did
pub record KeepsLast (old new : BoxView) (n : ℕ) : Type 0 where
  pub events : new.events ≡ drop (length old.events - n) old.events
  pub first : new.first ≡ old.first + ending (take (length old.events - n) old.events)
  pub stop : end_of new ≡ end_of old
  pub spare : old.spare ≤ new.spare
