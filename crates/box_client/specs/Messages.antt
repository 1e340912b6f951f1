-- A lane of messages alone, as that of the secret box is. This project's own.
use Rattle.std.specs.Prelude.{◌≡◌, ℕ, List, [], ◌∷◌, Bool, true, ◌&&◌, Some}
use Rattle.std.specs.FinMap as map_of
use Rattle.pts_machine.specs.Holding.{Items}
use Rattle.box_events.specs.Events.{EventView, is_new}
use Rattle.pts_machine.specs.States.{LaneState}

abbrev pub are_messages : List EventView → Bool
are_messages [] = true
are_messages (e ∷ es) = is_new e && are_messages es

-- each held event is a message
abbrev pub AreHeldMessages : Items EventView → Type 0
AreHeldMessages m = (start : ℕ) (x : ℕ × EventView) → map_of.get m start ≡ Some x → is_new x.1 ≡ true

-- all that a lane has or holds are messages
pub record HasMessages (t : LaneState EventView) : Type 0 where
  pub events : are_messages t.events ≡ true
  pub held : AreHeldMessages t.held
