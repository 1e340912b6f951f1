-- The lines of what clients have are those that their numbers and the server tell.
use Rattle.std.proofs.Common.{◌≡◌, ℕ, suc, ◌+◌, List, [], ◌∷◌, ◌++◌, map, Some, codes, refl, sym, ap, ◌∙◌}
use Rattle.std.specs.Prelude.{slice_get}
use Rattle.box_events.specs.Events.{EventView}
use Rattle.channel_box.specs.States.{ChannelState}
use Rattle.box_server.specs.Servers.{ServerState, state_of}
use Rattle.box_server.proofs.Carrying.{changed_overlays}
use Rattle.box_client.specs.Numbers.{channel_numbers, client_numbers}
use Rattle.box_client.specs.Saving.{settings_saved}
use Rattle.box_client.specs.States.{ClientState}
use Rattle.box_world.specs.Agreeing.{Boxes, Each}
use Rattle.box_world.specs.Reached.{boxes_of}
use Rattle.box_world.specs.Worlds.{run}
use Rattle.box_world.proofs.NumberWorlds.{numbers_follow}
use Rattle.report_lines.specs.Closing.{server_line, lane_lines, channel_lines, settings_lines, own_channel, own_channels, own_lines}
use Rattle.update_replay.specs.Closings.{channel_told, channels_told, client_told, clients_told, closing_lines}
use Rattle.update_replay.specs.Laws.{ClosingsAreOwn}
use Rattle.update_replay.specs.Told.{ChannelIsTold, IsTold, all_own_lines}
use Rattle.update_replay.proofs.Telling.{clients_are_told}

channel_same : (k : ℕ) (box : List EventView) (d : ChannelState) → ChannelIsTold box d → channel_told k box (channel_numbers d) ≡ own_channel k d
channel_same k box d t = let recent = sym t.recent in let lane = sym t.lane in λ i. channel_lines k d.id d.lane.restart d.lane.at (recent i) (lane i)

channels_same : (k : ℕ) (boxes : Boxes) (ds : List ChannelState) → Each (λ d. ChannelIsTold (boxes d.id) d) ds → channels_told k boxes (map channel_numbers ds) ≡ own_channels k ds
channels_same k boxes [] t = refl
channels_same k boxes (d ∷ ds) t = let one = channel_same k (boxes d.id) d t.0 in let others = channels_same k boxes ds t.1 in λ i. one i ++ others i

client_same : (s : ServerState) (boxes : Boxes) (k : ℕ) (c : ClientState) → IsTold s boxes c → client_told s boxes k (client_numbers c) ≡ own_lines k c
client_same s boxes k c t =
    let common = sym t.common in
    let secret = sym t.secret in
    let channels = channels_same k boxes c.channels t.channels in
    let table = sym t.table in
    λ i. lane_lines k (codes "common") c.common.restart c.common.at (common i)
    ++ lane_lines k (codes "secret") c.secret.restart c.secret.at (secret i)
    ++ channels i
    ++ settings_lines k c.settings.at (settings_saved (table i))

clients_same : (s : ServerState) (boxes : Boxes) (k : ℕ) (cs : List ClientState) → ((i : ℕ) (c : ClientState) → slice_get cs i ≡ Some c → IsTold s boxes c) → clients_told s boxes k (map client_numbers cs) ≡ all_own_lines k cs
clients_same s boxes k [] t = refl
clients_same s boxes k (c ∷ cs) t =
    let one = client_same s boxes k c (t 0 c refl) in let others = clients_same s boxes (k + 1) cs (λ i d at. t (suc i) d at) in λ i. one i ++ others i

pub closings_are_own : ClosingsAreOwn
closings_are_own n steps =
    ap closing_lines (sym (numbers_follow changed_overlays n steps))
    ∙ ap (λ (t : List ℕ). server_line (state_of (run n steps).server) ++ t) (clients_same (run n steps).server (boxes_of (run n steps)) 0 (run n steps).clients (λ k c at. clients_are_told n steps k c at))
