-- The list that messages and other events make between two numbers, or why they make none, as an order of work.
-- From "Working with Updates" (core.telegram.org/api/updates): pts and pts_count tell which numbers the other updates leave free.
use Rattle.std.specs.Prelude.{ℕ, ◌+◌, ◌-◌, List, [], ◌∷◌, ◌++◌, map, take, drop, Bool, true, false, eqb, Option, Some, None, Result, Ok, Err}
use Rattle.box_events.specs.Events.{EventView, added, count_of}
use Rattle.box_events.specs.declared.updates.Placed.{Placed}
use Rattle.box_events.specs.declared.difference_fault.WeaveFault.{WeaveFault}
use Rattle.box_events.specs.declared.difference_fault.WeaveFault.TheVariants.{Overlap, Uneven}
use Rattle.box_events.specs.Refusal.{overlap, covered}

-- how many numbers are free before an event, where what stands before it ends at `at`
abbrev pub free : ℕ → Placed → ℕ
free at o = (o.pts - count_of o.event) - at

-- before each other event as many messages as numbers are free, and the messages that are left at the end
abbrev pub merged : ℕ → List (List ℕ) → List Placed → List EventView
merged at news [] = map added news
merged at news (o ∷ os) = map added (take (free at o) news) ++ o.event ∷ merged o.pts (drop (free at o) news) os

-- the list or its cause, by where an event overlaps and whether the counts are even
abbrev pub woven_when : Option ℕ → Bool → ℕ → ℕ → List (List ℕ) → List Placed → Result (List EventView) WeaveFault
woven_when (Some pts) even from to news others = Err (Overlap pts)
woven_when None false from to news others = Err (Uneven from (covered news others) to)
woven_when None true from to news others = Ok (merged from news others)

-- the list from one number to the other
unfoldable pub woven_of : ℕ → ℕ → List (List ℕ) → List Placed → Result (List EventView) WeaveFault
woven_of from to news others = woven_when (overlap from to others) (eqb (from + covered news others) to) from to news others
