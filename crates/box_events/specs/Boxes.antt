-- Lists of events: their ends, boundaries and stretches.
-- From "Working with Updates" (core.telegram.org/api/updates): a box's number is the sum of the counts of its events. Stretches and
-- boundaries, as words for what a difference holds, are this project's own.
use Rattle.std.specs.Prelude.{◌≡◌, ℕ, ◌+◌, ◌≤◌, List, [], ◌∷◌, ◌++◌}
use Rattle.box_events.specs.Events.{EventView, count_of}

-- where a box that begins at 0 ends: the sum of its events' counts
abbrev pub ending : List EventView → ℕ
ending [] = 0
ending (e ∷ es) = count_of e + ending es

-- some prefix of the box ends at p
pub record IsBoundary (box : List EventView) (p : ℕ) : Type 0 where
  pub prefix : List EventView
  pub rest : List EventView
  pub whole : box ≡ prefix ++ rest
  pub stop : ending prefix ≡ p

-- the box cut in three: a prefix that ends at p, then the middle, with which it ends at q, then the rest
pub record Between (box : List EventView) (p q : ℕ) (middle : List EventView) : Type 0 where
  pub prefix : List EventView
  pub rest : List EventView
  pub whole : box ≡ prefix ++ (middle ++ rest)
  pub start : ending prefix ≡ p
  pub stop : ending (prefix ++ middle) ≡ q

-- each event counts for 1 number at least
abbrev pub AreCounted : List EventView → Type 0
AreCounted [] = Unit {0}
AreCounted (e ∷ es) = (1 ≤ count_of e) × AreCounted es
