-- Clients that agree with a server are told by their numbers and its boxes.
use Rattle.std.proofs.Common.{◌≡◌, List, [], ◌∷◌, refl, ap, ◌∙◌}
use Rattle.box_events.specs.Events.{EventView}
use Rattle.box_events.specs.Boxes.{AreCounted}
use Rattle.pts_machine.proofs.Growing.{latest_one}
use Rattle.pts_machine.specs.Fitting.{Fits}
use Rattle.pts_machine.specs.States.{LaneState}
use Rattle.channel_box.specs.States.{ChannelState}
use Rattle.box_server.specs.Servers.{ServerState}
use Rattle.box_server.specs.Runs.{recent_of}
use Rattle.box_server.proofs.Carrying.{changed_overlays}
use Rattle.box_client.specs.States.{ClientState}
use Rattle.box_world.specs.Worlds.{run}
use Rattle.box_world.specs.WholeBoxes.{kept_of}
use Rattle.box_world.specs.Agreeing.{Agrees, ChannelAgrees, Each, Boxes}
use Rattle.box_world.specs.Growing.{IsLedger}
use Rattle.box_world.specs.Reached.{boxes_of}
use Rattle.box_world.proofs.Reaching.{clients_agree, servers_keep_order}
use Rattle.update_replay.specs.Laws.{ClientsAreTold}
use Rattle.update_replay.specs.Told.{LaneIsTold, ChannelIsTold, IsTold}
use Rattle.update_replay.specs.Stretches.{stretch}
use Rattle.update_replay.proofs.Stretching.{stretch_is}

lane_told : (box : List EventView) (t : LaneState EventView) → AreCounted box → Fits box t → LaneIsTold box t
lane_told box t c f = stretch_is box t.restart t.at t.events c f.events

channel_told : (box : List EventView) (d : ChannelState) → AreCounted box → ChannelAgrees box d → ChannelIsTold box d
channel_told box d c a =
    let r = a.recent in
    let is : r.prefix ≡ stretch box 0 d.lane.restart = stretch_is box 0 d.lane.restart r.prefix c (record { prefix = []; rest = r.rest; whole = r.whole; start = refl; stop = r.stop }) in
    record { lane = lane_told box d.lane c a.lane; recent = r.content ∙ ap (λ (es : List EventView). recent_of (kept_of es)) is }

channels_told : (s : ServerState) (boxes : Boxes) → IsLedger s boxes → (ds : List ChannelState) → Each (λ d. ChannelAgrees (boxes d.id) d) ds → Each (λ d. ChannelIsTold (boxes d.id) d) ds
channels_told s boxes l [] a = tt
channels_told s boxes l (d ∷ ds) a = (channel_told (boxes d.id) d (l.channels d.id) a.0, channels_told s boxes l ds a.1)

told : (s : ServerState) (boxes : Boxes) (c : ClientState) → IsLedger s boxes → Agrees s boxes c → IsTold s boxes c
told s boxes c l a = record {
  common = lane_told s.common c.common l.common a.common;
  secret = lane_told s.secret c.secret l.secret a.secret;
  table = latest_one s.settings c.settings.at c.settings.table a.settings.latest.table;
  channels = channels_told s boxes l c.channels a.channels;
}

pub clients_are_told : ClientsAreTold
clients_are_told n steps k c at =
    told (run n steps).server (boxes_of (run n steps)) c (servers_keep_order changed_overlays n steps) (clients_agree changed_overlays n steps k c at)
