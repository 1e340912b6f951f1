-- Which channels have a box. This project's own.
use Rattle.std.specs.Prelude.{◌≡◌, ℤ, List, Option, Some, None, map as each}
use Rattle.box_server.specs.Servers.{ChannelBox, ServerState}
use Rattle.box_server.specs.Entries.{Entry, to_common, to_secret, to_channel, to_settings}
use Rattle.box_server.specs.Posting.{applied}

abbrev pub ids_in : List ChannelBox → List ℤ
ids_in cs = each (λ c. c.id) cs

-- the channel that an entry is for
abbrev pub channel_of : Entry → Option ℤ
channel_of (to_common e) = None
channel_of (to_secret body) = None
channel_of (to_channel id e) = Some id
channel_of (to_settings x) = None

-- the ids of a server's channels, before and after an entry
abbrev pub NotesId : List ℤ → List ℤ → Entry → Type 0
NotesId old new x = (s : ServerState) → ids_in s.channels ≡ old → ids_in (applied s x).channels ≡ new
