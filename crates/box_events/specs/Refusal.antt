-- Where messages and other events make no list of events between two numbers. This project's own.
use Rattle.std.specs.Prelude.{◌≡◌, ◌≢◌, ℕ, ◌+◌, List, [], ◌∷◌, length, false, ltb, ◌||◌, if◌then◌else◌, Option, Some, None}
use Rattle.box_events.specs.Events.{count_of, is_new}
use Rattle.box_events.specs.declared.updates.Placed.{Placed}
use Rattle.box_events.specs.declared.difference_fault.WeaveFault.{WeaveFault}
use Rattle.box_events.specs.declared.difference_fault.WeaveFault.TheVariants.{Overlap, Uneven}
use Rattle.tl_base.specs.declared.fault.Fault.{Fault}
use Rattle.tl_base.specs.declared.fault.Fault.TheVariants.{Refused, Memory}

-- each is no message
abbrev pub AreOthers : List Placed → Type 0
AreOthers [] = Unit {0}
AreOthers (o ∷ os) = (is_new o.event ≡ false) × AreOthers os

-- where the first event ends that starts below the end of the one before it, or below the list's start, or ends past the list's end
abbrev pub overlap : ℕ → ℕ → List Placed → Option ℕ
overlap at to [] = None
overlap at to (o ∷ os) = if ltb o.pts (at + count_of o.event) || ltb to o.pts then Some o.pts else overlap o.pts to os

-- for how many numbers the other events count
abbrev pub counts : List Placed → ℕ
counts [] = 0
counts (o ∷ os) = count_of o.event + counts os

-- for how many numbers the messages and the other events count
abbrev pub covered : List (List ℕ) → List Placed → ℕ
covered news others = counts others + length news

-- no event overlaps, and all count for the numbers from one to the other
pub record Fits (from to : ℕ) (news : List (List ℕ)) (others : List Placed) : Type 0 where
  pub apart : overlap from to others ≡ None
  pub even : from + covered news others ≡ to

-- why each is answered; only where the parts fit is memory asked for
abbrev pub Refuses : ℕ → ℕ → List (List ℕ) → List Placed → Fault WeaveFault → Type 0
Refuses from to news others (Refused (Overlap pts)) = overlap from to others ≡ Some pts
Refuses from to news others (Refused (Uneven a b c)) =
    (overlap from to others ≡ None) × (a ≡ from) × (b ≡ covered news others) × (c ≡ to) × (from + covered news others ≢ to)
Refuses from to news others Memory = Fits from to news others
