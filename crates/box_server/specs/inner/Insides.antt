-- A server's fields as a server. This project's own.
use Rattle.std.specs.Prelude.{◌≡◌, ℤ, List, map as each}
use Rattle.std.specs.FinMap as map
use Rattle.std.specs.List.Sorted.{IsStrictlySortedBy}
use Rattle.std.specs.Map.{keys_of}
use Rattle.std.specs.Ordering.{int_cmp}
use Rattle.box_server.specs.declared.channel.Channel.{Channel}
use Rattle.box_server.specs.declared.server.Server.TheInside.{Inside}
use Rattle.box_events.specs.declared.positions.Receipt.{Receipt}
use Rattle.box_server.specs.Servers.{ChannelBox, Receipts, ServerState}
use Rattle.box_server.specs.Sound.{IsSound}

-- a channel's fields as its box
abbrev pub channel_view : Channel → ChannelBox
channel_view c = record { id = c.id; first = c.events.first; events = c.events.events }

-- entries in the order of their ids, as receipts by random ids
abbrev pub receipts_in : List (ℤ × Receipt) → Receipts
receipts_in es = map.from_sorted es

abbrev pub server_view : Inside → ServerState
server_view s = record {
  date = s.date;
  common = s.common.events;
  secret = s.secret.events;
  channels = each channel_view s.channels.items;
  settings = s.settings;
  receipts = receipts_in s.receipts.entries;
}

-- what holds of the fields: the common and the secret box keep all their events; receipts stand in the order of their ids
pub record IsServer (s : Inside) : Type 0 where
  pub sound : IsSound (server_view s)
  pub common : s.common.first ≡ 0
  pub secret : s.secret.first ≡ 0
  pub order : IsStrictlySortedBy int_cmp (keys_of s.receipts.entries)
