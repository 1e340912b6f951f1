-- What is carried of a box from a number on. This project's own.
use Rattle.std.specs.Prelude.{◌≡◌, ℕ, ℤ, pos, negsuc, ◌+◌, ◌-◌, List, leb, if◌then◌else◌, Option, Some, None}
use Rattle.box_events.specs.Events.{EventView}
use Rattle.box_events.specs.Boxes.{ending, AreCounted}
use Rattle.box_events.specs.BoxViews.{BoxView}
use Rattle.box_events.specs.PartsView.{PartsView}
use Rattle.box_server.specs.declared.runs.Run.{Run}
use Rattle.box_server.specs.Servers.{ChannelBox}
use Rattle.box_server.specs.Runs.{events_after, run_of}
use Rattle.box_server.specs.Answers.{is_whole}

-- the events after a number of a box; none where it is no boundary
abbrev pub after_of : BoxView → ℕ → Option (List EventView)
after_of b p = if leb b.first p then events_after b.events (p - b.first) else None

-- the parts are what is carried of the events after a number, to where these end
pub record Fills (b : BoxView) (from : ℕ) (parts : PartsView) (end : ℕ) : Type 0 where
  pub events : List EventView
  pub after : after_of b from ≡ Some events
  pub begin : parts.from ≡ from
  pub run : parts.events ≡ run_of events
  pub stop : end ≡ from + ending (run_of events)
  pub counted : AreCounted parts.events

-- no run where the number is no boundary, else that of the events after it
abbrev pub Carries : BoxView → ℕ → Option Run → Type 0
Carries b from None = after_of b from ≡ None
Carries b from (Some run) = (f : Fills b from run.parts run.end) × (run.is_whole ≡ is_whole f.events)

-- a position as a number; none where it is below 0
abbrev pub IsNumber : ℤ → Option ℕ → Type 0
IsNumber z None = (n : ℕ) × (z ≡ negsuc n)
IsNumber z (Some n) = z ≡ pos n

-- a channel with this box
abbrev pub boxed : ℤ → BoxView → ChannelBox
boxed id b = record { id = id; first = b.first; events = b.events }
