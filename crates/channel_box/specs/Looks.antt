-- What is told of channels. This project's own.
use Rattle.std.specs.Prelude.{◌≡◌, ℕ, List, [], ◌∷◌, Bool, true, false, ◌||◌, Option, Some, None}
use Rattle.box_events.specs.Events.{EventView}
use Rattle.pts_machine.specs.declared.mode.Mode.{Mode}
use Rattle.pts_machine.specs.declared.mode.Mode.TheVariants.{Live, Asking, Again}
use Rattle.pts_machine.specs.States.{LaneState}
use Rattle.channel_box.specs.States.{ChannelState}

-- it is this channel's lane
abbrev pub LaneIs : Option ChannelState → LaneState EventView → Type 0
LaneIs None t = ⊥
LaneIs (Some c) t = t ≡ c.lane

-- a channel's recent messages; none where it isn't watched
abbrev pub recent_of : Option ChannelState → List (List ℕ)
recent_of None = []
recent_of (Some c) = c.recent

-- an answer is waited for
abbrev pub is_waiting : Mode → Bool
is_waiting Live = false
is_waiting (Asking n) = true
is_waiting Again = false

abbrev pub waits : ChannelState → Bool
waits c = is_waiting c.lane.mode

abbrev pub any_asks : List ChannelState → Bool
any_asks [] = false
any_asks (c ∷ cs) = waits c || any_asks cs
