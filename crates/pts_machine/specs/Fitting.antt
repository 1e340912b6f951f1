-- A lane that fits a box. This project's own.
use Rattle.std.specs.Prelude.{◌≡◌, ℕ, List, [], ◌∷◌, Some}
use Rattle.std.specs.FinMap as map
use Rattle.box_events.specs.Events.{EventView}
use Rattle.box_events.specs.Boxes.{Between}
use Rattle.pts_machine.specs.States.{LaneState}

-- The lane's events are what lies in the box from its restart to its position, and each held event lies there from its start to its end.
pub record Fits (box : List EventView) (t : LaneState EventView) : Type 0 where
  pub events : Between box t.restart t.at t.events
  pub held : (s : ℕ) (x : ℕ × EventView) → map.get t.held s ≡ Some x → Between box s x.0 (x.1 ∷ [])
