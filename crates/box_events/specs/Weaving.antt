-- A difference's messages and its other events, as the parts of one list of events.
-- From "Working with Updates" (core.telegram.org/api/updates): a difference gives new messages apart from other updates. A message counts for one
-- number of its box; each other update carries the number at which it ends (pts) and its count (pts_count).
use Rattle.std.specs.Prelude.{◌≡◌, ℕ, ◌+◌, List, [], ◌∷◌, if◌then◌else◌}
use Rattle.box_events.specs.Events.{EventView, count_of, body_of, is_new}
use Rattle.box_events.specs.Boxes.{ending}
use Rattle.box_events.specs.declared.updates.Placed.{Placed}

-- the bodies of the messages, in order
abbrev pub bodies : List EventView → List (List ℕ)
bodies [] = []
bodies (e ∷ es) = if is_new e then body_of e ∷ bodies es else bodies es

-- an event that ends at pts
abbrev pub ends_at : EventView → ℕ → Placed
ends_at e pts = record { event = e; pts = pts }

-- the other events, in order, of a list that starts at p: each with p and the counts up to it, its own among them
abbrev pub others_from : ℕ → List EventView → List Placed
others_from p [] = []
others_from p (e ∷ es) =
    if is_new e then others_from (p + count_of e) es else ends_at e (p + count_of e) ∷ others_from (p + count_of e) es

-- a list of events from one number to another has these messages and these other events
pub record Woven (from to : ℕ) (news : List (List ℕ)) (others : List Placed) (events : List EventView) : Type 0 where
  pub sum : from + ending events ≡ to
  pub messages : bodies events ≡ news
  pub rest : others_from from events ≡ others
