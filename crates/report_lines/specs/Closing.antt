-- The lines that close a report: the server's, and what each client has. The texts are this project's own.
use Rattle.std.specs.Prelude.{ℕ, ℤ, ◌+◌, List, [], ◌∷◌, ◌++◌, length, codes, decimal}
use Rattle.std.specs.Fmt.{signed_decimal}
use Rattle.std.specs.Int.{w32, cast_unsigned, to_le_bytes}
use Rattle.hex.specs.Hex.{encode_lower}
use Rattle.box_events.specs.declared.positions.State.{State}
use Rattle.box_events.specs.declared.settings.Setting.{Setting}
use Rattle.box_events.specs.Events.{EventView, added, edited, deleted, read, count_of}
use Rattle.channel_box.specs.States.{ChannelState}
use Rattle.box_client.specs.States.{ClientState}
use Rattle.box_client.specs.Saving.{settings_saved}
use Rattle.report_lines.specs.Texts.{positions}

abbrev pub server_line : State → List ℕ
server_line s = codes "server " ++ positions s.pts s.qts s.seq ++ (codes " date " ++ decimal s.date) ++ codes "\n"

-- ---- events

-- an id as four bytes, the lowest first
abbrev pub id_bytes : ℤ → List ℕ
id_bytes id = to_le_bytes w32 (cast_unsigned w32 id)

abbrev pub ids_bytes : List ℤ → List ℕ
ids_bytes [] = []
ids_bytes (i ∷ is) = id_bytes i ++ ids_bytes is

abbrev pub event_bytes : EventView → List ℕ
event_bytes (added body) = body
event_bytes (edited body) = body
event_bytes (deleted ids) = ids_bytes ids
event_bytes (read id) = id_bytes id

abbrev pub event_word : EventView → List ℕ
event_word (added body) = codes "new "
event_word (edited body) = codes "edit "
event_word (deleted ids) = codes "delete "
event_word (read id) = codes "read "

-- an event, with the number at which it ends
abbrev pub event_line : ℕ → EventView → List ℕ
event_line end e = event_word e ++ decimal end ++ codes " " ++ encode_lower (event_bytes e) ++ codes "\n"

-- events in order, after a number
abbrev pub event_lines : ℕ → List EventView → List ℕ
event_lines at [] = []
event_lines at (e ∷ es) = event_line (at + count_of e) e ++ event_lines (at + count_of e) es

-- ---- what client k has

abbrev pub client_head : ℕ → List ℕ
client_head k = codes "client " ++ decimal k ++ codes " "

abbrev pub span : ℕ → ℕ → List ℕ
span restart at = codes " from " ++ decimal restart ++ (codes " to " ++ decimal at)

-- of the common or the secret box, by its name: from where to where, and the events
abbrev pub lane_lines : ℕ → List ℕ → ℕ → ℕ → List EventView → List ℕ
lane_lines k name restart at events = client_head k ++ name ++ span restart at ++ codes "\n" ++ event_lines restart events

abbrev pub recent_line : List ℕ → List ℕ
recent_line body = codes "recent " ++ encode_lower body ++ codes "\n"

abbrev pub recent_lines : List (List ℕ) → List ℕ
recent_lines [] = []
recent_lines (body ∷ bodies) = recent_line body ++ recent_lines bodies

abbrev pub channel_line : ℕ → ℤ → ℕ → ℕ → ℕ → List ℕ
channel_line k id restart at number = client_head k ++ (codes "channel " ++ signed_decimal id) ++ span restart at ++ (codes " recent " ++ decimal number) ++ codes "\n"

-- of a channel: besides, the messages that were told in place of older events
abbrev pub channel_lines : ℕ → ℤ → ℕ → ℕ → List (List ℕ) → List EventView → List ℕ
channel_lines k id restart at recent events = channel_line k id restart at (length recent) ++ recent_lines recent ++ event_lines restart events

abbrev pub setting_line : Setting → List ℕ
setting_line x = codes "setting " ++ encode_lower x.key ++ codes " " ++ encode_lower x.value ++ codes "\n"

abbrev pub setting_lines : List Setting → List ℕ
setting_lines [] = []
setting_lines (x ∷ xs) = setting_line x ++ setting_lines xs

-- of the settings: up to which seq, and each
abbrev pub settings_lines : ℕ → ℕ → List Setting → List ℕ
settings_lines k seq settings = client_head k ++ (codes "settings seq " ++ decimal seq) ++ codes "\n" ++ setting_lines settings

abbrev pub own_channel : ℕ → ChannelState → List ℕ
own_channel k c = channel_lines k c.id c.lane.restart c.lane.at c.recent c.lane.events

abbrev pub own_channels : ℕ → List ChannelState → List ℕ
own_channels k [] = []
own_channels k (c ∷ cs) = own_channel k c ++ own_channels k cs

-- all that client k has: its lanes, its channels in order of watching, its settings in byte order of keys
abbrev pub own_lines : ℕ → ClientState → List ℕ
own_lines k c =
    lane_lines k (codes "common") c.common.restart c.common.at c.common.events
    ++ lane_lines k (codes "secret") c.secret.restart c.secret.at c.secret.events
    ++ own_channels k c.channels
    ++ settings_lines k c.settings.at (settings_saved c.settings.table)
