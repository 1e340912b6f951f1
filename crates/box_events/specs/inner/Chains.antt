-- Pages in order. This project's own.
use Rattle.std.specs.Prelude.{◌≡◌, ℕ, ◌+◌, ◌≤◌, List, [], ◌∷◌, ◌++◌, length, take, drop}
use Rattle.box_events.specs.declared.limits.TheConstants.{PAGE_EVENTS}
use Rattle.box_events.specs.Events.{EventView}
use Rattle.box_events.specs.Boxes.{ending}
use Rattle.box_events.specs.BoxViews.{BoxView, end_of}

-- the events of pages in order
abbrev pub joined : List BoxView → List EventView
joined [] = []
joined (p ∷ ps) = p.events ++ joined ps

-- the first page begins at p, and each other where the one before it ends
abbrev pub AreChained : ℕ → List BoxView → Type 0
AreChained p [] = Unit {0}
AreChained p (x ∷ xs) = (x.first ≡ p) × AreChained (end_of x) xs

-- no events yet, and room for a page's
abbrev pub AreFresh : List BoxView → Type 0
AreFresh [] = Unit {0}
AreFresh (x ∷ xs) = (x.events ≡ []) × (PAGE_EVENTS ≤ x.spare) × AreFresh xs

-- so many whole pages and so many events of the next are `excess` events
pub record IsCut (pages : List BoxView) (excess whole rest : ℕ) : Type 0 where
  pub within : whole ≤ length pages
  pub number : length (joined (take whole pages)) + rest ≡ excess
  pub some : (x : BoxView) (xs : List BoxView) → drop whole pages ≡ x ∷ xs → rest ≤ length x.events

-- the pages that begin at `first` hold what `all`, which begin at p, hold without their first n events
pub record IsLeft (p : ℕ) (all : List BoxView) (n first : ℕ) (left : List BoxView) : Type 0 where
  pub events : joined left ≡ drop n (joined all)
  pub begin : first ≡ p + ending (take n (joined all))
  pub chained : AreChained first left

-- the first page loses its first n events, and begins at `first` then
pub record DropsFirst (old new : List BoxView) (n first : ℕ) : Type 0 where
  pub before : BoxView
  pub after : BoxView
  pub others : List BoxView
  pub was : old ≡ before ∷ others
  pub is : new ≡ after ∷ others
  pub begin : after.first ≡ before.first + ending (take n before.events)
  pub events : after.events ≡ drop n before.events
  pub same : first ≡ after.first
