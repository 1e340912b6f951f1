-- What a client has, as its numbers and the server's boxes tell it. This project's own.
use Rattle.std.specs.Prelude.{◌≡◌, ℕ, ◌+◌, List, [], ◌∷◌, ◌++◌}
use Rattle.box_events.specs.Events.{EventView}
use Rattle.pts_machine.specs.States.{LaneState}
use Rattle.pts_machine.specs.Latest.{latest}
use Rattle.channel_box.specs.States.{ChannelState}
use Rattle.box_server.specs.Servers.{ServerState}
use Rattle.box_server.specs.Runs.{recent_of}
use Rattle.box_client.specs.States.{ClientState}
use Rattle.box_world.specs.Agreeing.{Boxes, Each}
use Rattle.box_world.specs.WholeBoxes.{kept_of}
use Rattle.report_lines.specs.Closing.{own_lines}
use Rattle.update_replay.specs.Stretches.{stretch}

-- a lane's events are what lies in its box between its restart and its position
abbrev pub LaneIsTold : List EventView → LaneState EventView → Type 0
LaneIsTold box t = t.events ≡ stretch box t.restart t.at

-- besides, a channel's recent messages are the last that were kept of what lies before its restart
pub record ChannelIsTold (box : List EventView) (c : ChannelState) : Type 0 where
  pub lane : LaneIsTold box c.lane
  pub recent : c.recent ≡ recent_of (kept_of (stretch box 0 c.lane.restart))

pub record IsTold (s : ServerState) (boxes : Boxes) (c : ClientState) : Type 0 where
  pub common : LaneIsTold s.common c.common
  pub secret : LaneIsTold s.secret c.secret
  pub table : c.settings.table ≡ latest s.settings c.settings.at
  pub channels : Each (λ d. ChannelIsTold (boxes d.id) d) c.channels

-- what clients have, from number k on
abbrev pub all_own_lines : ℕ → List ClientState → List ℕ
all_own_lines k [] = []
all_own_lines k (c ∷ cs) = own_lines k c ++ all_own_lines (k + 1) cs
