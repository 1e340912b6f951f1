-- Laws of woven lists. This project's own.
use Rattle.std.specs.Prelude.{◌≡◌, ℕ, ◌+◌, ◌≤◌, List, [], ◌∷◌, ◌++◌, Ok, Err, IsOk}
use Rattle.box_events.specs.Events.{EventView, count_of}
use Rattle.box_events.specs.Boxes.{ending, AreCounted}
use Rattle.box_events.specs.declared.updates.Placed.{Placed}
use Rattle.box_events.specs.declared.difference_fault.WeaveFault.{WeaveFault}
use Rattle.tl_base.specs.declared.fault.Fault.{Fault}
use Rattle.tl_base.specs.declared.fault.Fault.TheVariants.{Refused, Memory}
use Rattle.box_events.specs.Weaving.{Woven, bodies, others_from}
use Rattle.box_events.specs.Refusal.{AreOthers, Fits, Refuses}
use Rattle.box_events.specs.Weaves.{woven_of}

-- of the same parts one list at most is woven
abbrev pub IsOneList : Type 0
IsOneList = (from to : ℕ) (news : List (List ℕ)) (others : List Placed) (xs ys : List EventView)
    → Woven from to news others xs → Woven from to news others ys → xs ≡ ys

-- the parts of a woven list fit
abbrev pub EachFits : Type 0
EachFits = (from to : ℕ) (news : List (List ℕ)) (others : List Placed) (events : List EventView)
    → Woven from to news others events → Fits from to news others

-- of parts that fit a list is woven
abbrev pub EachThatFitsIsWoven : Type 0
EachThatFitsIsWoven = (from to : ℕ) (news : List (List ℕ)) (others : List Placed)
    → AreOthers others → Fits from to news others → (events : List EventView) × Woven from to news others events

-- the other events of a woven list are no messages
abbrev pub HasOthers : Type 0
HasOthers = (from to : ℕ) (news : List (List ℕ)) (others : List Placed) (events : List EventView)
    → Woven from to news others events → AreOthers others

-- where there is a list no cause holds, so weaving what was split gives the list again
abbrev pub IsNotRefused : Type 0
IsNotRefused = (from to : ℕ) (news : List (List ℕ)) (others : List Placed) (events : List EventView) (fault : Fault WeaveFault)
    → Woven from to news others events → Refuses from to news others fault → fault ≡ Memory

-- each list has parts
abbrev pub EachHasParts : Type 0
EachHasParts = (from : ℕ) (events : List EventView) → Woven from (from + ending events) (bodies events) (others_from from events) events

-- two lists, of which one starts where the other ends, are one list of the parts of both
abbrev pub Joins : Type 0
Joins = (p q r : ℕ) (ns ms : List (List ℕ)) (os ps : List Placed) (xs ys : List EventView)
    → Woven p q ns os xs → Woven q r ms ps ys → Woven p r (ns ++ ms) (os ++ ps) (xs ++ ys)

-- a woven list is the list that is made of its parts, and of other events that are no messages no other list is made
abbrev pub IsMade : Type 0
IsMade = (from to : ℕ) (news : List (List ℕ)) (others : List Placed) (events : List EventView)
    → Woven from to news others events → woven_of from to news others ≡ Ok events

abbrev pub IsWovenOfOthers : Type 0
IsWovenOfOthers = (from to : ℕ) (news : List (List ℕ)) (others : List Placed) (events : List EventView)
    → AreOthers others → woven_of from to news others ≡ Ok events → Woven from to news others events

-- what is made reaches from one number to the other
abbrev pub Reaches : Type 0
Reaches = (from to : ℕ) (news : List (List ℕ)) (others : List Placed) (events : List EventView)
    → woven_of from to news others ≡ Ok events → from + ending events ≡ to

-- a cause is why no list is made; and where memory is asked for, one is made
abbrev pub IsWhy : Type 0
IsWhy = (from to : ℕ) (news : List (List ℕ)) (others : List Placed)
    → ((cause : WeaveFault) → Refuses from to news others (Refused cause) → woven_of from to news others ≡ Err cause)
    × (Refuses from to news others Memory → IsOk (woven_of from to news others))

-- each other event counts for 1 number at least
abbrev pub AreCountedOthers : List Placed → Type 0
AreCountedOthers [] = Unit {0}
AreCountedOthers (o ∷ os) = (1 ≤ count_of o.event) × AreCountedOthers os

-- so does each event that is woven of them
abbrev pub KeepsCounts : Type 0
KeepsCounts = (from to : ℕ) (news : List (List ℕ)) (others : List Placed) (events : List EventView)
    → AreCountedOthers others → Woven from to news others events → AreCounted events

-- where another event stands first the list begins with it, however many messages there are
abbrev pub OthersKeepTheirNumbers : Type 0
OthersKeepTheirNumbers = (from to : ℕ) (news : List (List ℕ)) (o : Placed) (os : List Placed) (events : List EventView)
    → Woven from to news (o ∷ os) events → o.pts ≡ from + count_of o.event → (more : List EventView) × (events ≡ o.event ∷ more)
