-- What the longer laws of boxes say. This project's own.
use Rattle.std.specs.Prelude.{◌≡◌, ◌+◌, ◌≤◌, ◌++◌, ℕ, List}
use Rattle.box_events.specs.Events.{EventView}
use Rattle.box_events.specs.Boxes.{ending, Between, AreCounted}
use Rattle.box_events.specs.BoxViews.{BoxView, BetweenOf}

-- A stretch of a box stays one when events are appended.
abbrev pub StretchesStay : Type 0
StretchesStay =
    (old new : BoxView) (more : List EventView) (p q : ℕ) (xs : List EventView) → new.first ≡ old.first
    → new.events ≡ old.events ++ more → BetweenOf old p q xs → BetweenOf new p q xs

-- A stretch that begins where the kept events do, or later, is one of the kept box.
abbrev pub KeptStretchesStay : Type 0
KeptStretchesStay =
    (gone : List EventView) (b : BoxView) (p q : ℕ) (xs : List EventView) → AreCounted (gone ++ b.events)
    → b.first ≡ ending gone → b.first ≤ p → Between (gone ++ b.events) p q xs → BetweenOf b p q xs
