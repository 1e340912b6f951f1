-- The closing lines of a report: the server's positions, and each client's boxes as what lies in the server's between the client's numbers.
-- This project's own.
use Rattle.std.specs.Prelude.{ℕ, ◌+◌, List, [], ◌∷◌, ◌++◌, codes}
use Rattle.box_events.specs.Events.{EventView}
use Rattle.box_server.specs.Servers.{ServerState, state_of}
use Rattle.box_server.specs.Runs.{recent_of}
use Rattle.pts_machine.specs.Latest.{latest}
use Rattle.box_client.specs.Numbers.{LaneNumbers, ChannelNumbers, ClientNumbers}
use Rattle.box_client.specs.Saving.{settings_saved}
use Rattle.box_world.specs.Agreeing.{Boxes}
use Rattle.box_world.specs.WholeBoxes.{whole_box, kept_of}
use Rattle.box_world.specs.NumberWorlds.{NumberWorld}
use Rattle.report_lines.specs.Closing.{server_line, lane_lines, channel_lines, settings_lines}
use Rattle.update_replay.specs.Stretches.{stretch}

-- a lane of client k in its box
abbrev pub lane_told : ℕ → List ℕ → List EventView → LaneNumbers → List ℕ
lane_told k name box l = lane_lines k name l.restart l.at (stretch box l.restart l.at)

-- a channel in its whole box, and the messages that stood before its restart
abbrev pub channel_told : ℕ → List EventView → ChannelNumbers → List ℕ
channel_told k box c = channel_lines k c.id c.lane.restart c.lane.at (recent_of (kept_of (stretch box 0 c.lane.restart))) (stretch box c.lane.restart c.lane.at)

abbrev pub channels_told : ℕ → Boxes → List ChannelNumbers → List ℕ
channels_told k boxes [] = []
channels_told k boxes (c ∷ cs) = channel_told k (boxes c.id) c ++ channels_told k boxes cs

-- client k: its lanes, its channels in order of watching, and the settings at its seq
abbrev pub client_told : ServerState → Boxes → ℕ → ClientNumbers → List ℕ
client_told s boxes k c =
    lane_told k (codes "common") s.common c.common
    ++ lane_told k (codes "secret") s.secret c.secret
    ++ channels_told k boxes c.channels
    ++ settings_lines k c.settings.at (settings_saved (latest s.settings c.settings.at))

-- clients from number k on
abbrev pub clients_told : ServerState → Boxes → ℕ → List ClientNumbers → List ℕ
clients_told s boxes k [] = []
clients_told s boxes k (c ∷ cs) = client_told s boxes k c ++ clients_told s boxes (k + 1) cs

abbrev pub closing_lines : NumberWorld → List ℕ
closing_lines w = server_line (state_of w.server) ++ clients_told w.server (whole_box w.pool) 0 w.clients
