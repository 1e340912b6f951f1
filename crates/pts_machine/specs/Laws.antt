-- What the longer laws of lanes say. This project's own.
use Rattle.std.specs.Prelude.{◌≡◌, ◌<◌, ◌≤◌, ◌+◌, ◌∷◌, ◌++◌, ℕ, Bool, List, [], None, false}
use Rattle.std.specs.List.{sum_by}
use Rattle.std.specs.FinMap as map
use Rattle.box_events.specs.Events.{EventView, count_of}
use Rattle.box_events.specs.Boxes.{Between, AreCounted}
use Rattle.pts_machine.specs.declared.mode.Mode.TheVariants.{Live}
use Rattle.pts_machine.specs.States.{LaneState, IsSound}
use Rattle.pts_machine.specs.Steps.{hear, extend}
use Rattle.pts_machine.specs.Fitting.{Fits}

-- A lane stays sound as it hears an item that ends after its start by its count.
abbrev pub StaysSound : (E : Type 0) → Type 0
StaysSound E =
    (count : E → ℕ) (t : LaneState E) (start end : ℕ) (item : E) → IsSound count t → start < end
    → end ≡ start + count item → end ≤ 1000000 → IsSound count (hear t start end item).state

-- A lane that fits a box still does when it hears an event at the event's own place.
abbrev pub FitsAsItHears : Type 0
FitsAsItHears =
    (box : List EventView) (t : LaneState EventView) (start end : ℕ) (event : EventView) → AreCounted box
    → Fits box t → Between box start end (event ∷ []) → Fits box (hear t start end event).state

-- A lane that fits a box still does when an answer brings what lies in the box from its position on.
abbrev pub FitsAsItExtends : Type 0
FitsAsItExtends =
    (box : List EventView) (t : LaneState EventView) (to : ℕ) (events : List EventView) (last : Bool)
    → AreCounted box → Fits box t → Between box t.at to events → Fits box (extend count_of t events last)

-- A lane reaches the end of what an answer brings.
abbrev pub ReachesTheEnd : Type 0
ReachesTheEnd =
    (box : List EventView) (t : LaneState EventView) (to : ℕ) (events : List EventView) (last : Bool)
    → AreCounted box → Fits box t → Between box t.at to events → to ≤ (extend count_of t events last).at

-- An item that starts after the position moves nothing: a gap lies between.
abbrev pub WaitsAfterAGap : (E : Type 0) → Type 0
WaitsAfterAGap E =
    (t : LaneState E) (start end : ℕ) (item : E) → t.at < start
    → ((hear t start end item).state.at ≡ t.at) × ((hear t start end item).state.events ≡ t.events)

-- An item that starts at the position of a live lane is its next event.
abbrev pub IsNextInTurn : (E : Type 0) → Type 0
IsNextInTurn E =
    (t : LaneState E) (end : ℕ) (item : E) → t.mode ≡ Live → map.get t.held t.at ≡ None
    → (more : List E) × ((hear t t.at end item).state.events ≡ t.events ++ item ∷ more)

-- What is held from the end of a part on is held still.
abbrev pub IsHeldStill : (E : Type 0) → Type 0
IsHeldStill E =
    (count : E → ℕ) (t : LaneState E) (events : List E) (s : ℕ) → t.at + sum_by count events ≤ s
    → map.get (extend count t events false).held s ≡ map.get t.held s
