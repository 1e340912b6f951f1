-- A lane's fields as a lane. This project's own.
use Rattle.std.specs.Prelude.{ℕ, ◌+◌, ◌≤◌, vec_len, vec_capacity}
use Rattle.std.specs.FinMap as map
use Rattle.pts_machine.specs.declared.lane.Lane.TheInside.{Inside}
use Rattle.pts_machine.specs.States.{LaneState, LaneView, IsSound}

abbrev pub state_of : {E : Type 0} → Inside E → LaneState E
state_of a = record { restart = a.restart; events = a.events.items; at = a.at; held = a.gap.held; mode = a.mode }

abbrev pub view_of : {E : Type 0} → Inside E → LaneView E
view_of a = record { state = state_of a; spare = a.spare }

-- what holds of every lane, and there is room to hold the further items, and to apply them beside everything held
pub record IsWhole {E : Type 0} (count : E → ℕ) (a : Inside E) : Type 0 where
  pub sound : IsSound count (state_of a)
  pub room : vec_len a.events + map.len a.gap.held + a.spare ≤ vec_capacity a.events
  pub gap : a.spare ≤ a.gap.spare
