-- What a post does: it appends an event to a box, or sets a setting. This project's own; boxes as on "Working with Updates"
-- (core.telegram.org/api/updates).
use Rattle.std.specs.Prelude.{ℕ, ℤ, ◌+◌, ◌*◌, List, [], ◌∷◌, length, Bool, false}
use Rattle.box_events.specs.declared.limits.TheConstants.{ID_BYTES}
use Rattle.box_events.specs.declared.positions.LaneName.{LaneName}
use Rattle.box_events.specs.declared.positions.LaneName.TheVariants.{Common, Secret as SecretLane, Channel, Seq}
use Rattle.box_events.specs.declared.requests.Post.{Post}
use Rattle.box_events.specs.declared.requests.Post.TheVariants.{Message, Edit, Delete, Secret, ChannelMessage, ChannelEdit, ChannelDelete, Setting as SettingPost, Read, ChannelRead}
use Rattle.box_events.specs.declared.settings.Setting.{Setting}
use Rattle.box_events.specs.Events.{EventView, added, edited, deleted, read, count_of}

-- an event for the common box, a message for the secret box, an event for a channel's box, or a setting
pub data Entry : Type 0 where
  to_common : EventView → Entry
  to_secret : List ℕ → Entry
  to_channel : ℤ → EventView → Entry
  to_settings : Setting → Entry

abbrev pub entry_of : Post → Entry
entry_of (Message body) = to_common (added body)
entry_of (Edit body) = to_common (edited body)
entry_of (Delete ids) = to_common (deleted ids)
entry_of (Secret body) = to_secret body
entry_of (ChannelMessage id body) = to_channel id (added body)
entry_of (ChannelEdit id body) = to_channel id (edited body)
entry_of (ChannelDelete id ids) = to_channel id (deleted ids)
entry_of (SettingPost key value) = to_settings (record { key = key; value = value })
entry_of (Read max_id) = to_common (read max_id)
entry_of (ChannelRead id max_id) = to_channel id (read max_id)

-- what posts do, in order
abbrev pub entries_of : List Post → List Entry
entries_of [] = []
entries_of (p ∷ ps) = entry_of p ∷ entries_of ps

-- where an entry goes
abbrev pub lane_of : Entry → LaneName
lane_of (to_common e) = Common
lane_of (to_secret body) = SecretLane
lane_of (to_channel id e) = Channel id
lane_of (to_settings x) = Seq

-- by how many numbers it raises the end there
abbrev pub raise_of : Entry → ℕ
raise_of (to_common e) = count_of e
raise_of (to_secret body) = 1
raise_of (to_channel id e) = count_of e
raise_of (to_settings x) = 1

-- of how many bytes a difference's events are: a body has its own, an id has four
abbrev pub bytes_of : EventView → ℕ
bytes_of (added body) = length body
bytes_of (edited body) = length body
bytes_of (deleted ids) = ID_BYTES * length ids
bytes_of (read id) = ID_BYTES

-- of how many bytes an entry is
abbrev pub size_of : Entry → ℕ
size_of (to_common e) = bytes_of e
size_of (to_secret body) = length body
size_of (to_channel id e) = bytes_of e
size_of (to_settings x) = length x.key + length x.value

-- whether an entry is an event that passes a test
abbrev pub is_event : (EventView → Bool) → Entry → Bool
is_event f (to_common e) = f e
is_event f (to_secret body) = f (added body)
is_event f (to_channel id e) = f e
is_event f (to_settings x) = false

-- whether an entry is a setting that passes a test
abbrev pub is_setting : (Setting → Bool) → Entry → Bool
is_setting f (to_common e) = false
is_setting f (to_secret body) = false
is_setting f (to_channel id e) = false
is_setting f (to_settings x) = f x
