-- What the code is told of lanes: the texts of a channel that is looked up by its id, none where it isn't watched. This project's own.
use Rattle.std.specs.Prelude.{ℕ, ◌+◌, ◌≤◌, ℤ, List, [], Option, Some, None}
use Rattle.box_events.specs.Boxes.{ending}
use Rattle.box_events.specs.Events.{EventView}
use Rattle.box_events.specs.declared.limits.TheConstants.{MAX_END}
use Rattle.pts_machine.specs.States.{LaneState}
use Rattle.channel_box.specs.States.{ChannelState}
use Rattle.report_lines.specs.Texts.{channel_position}
use Rattle.report_lines.specs.Closing.{channel_lines}

abbrev pub position_of : ℤ → Option ChannelState → List ℕ
position_of id None = []
position_of id (Some c) = channel_position id c.lane.at

abbrev pub lines_of : ℕ → ℤ → Option ChannelState → List ℕ
lines_of k id None = []
lines_of k id (Some c) = channel_lines k id c.lane.restart c.lane.at c.recent c.lane.events

-- the events of a lane end at a box's limit at most
abbrev pub EndsInLimit : LaneState EventView → Type 0
EndsInLimit t = t.restart + ending t.events ≤ MAX_END
