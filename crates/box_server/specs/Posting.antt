-- Posts, applied in order.
-- From "Working with Updates" (core.telegram.org/api/updates): each event raises its box's number by its count, and the push tells the numbers
-- reached (pts, pts_count, qts, seq). Settings, receipts, and which events of a channel are kept are this project's own.
use Rattle.std.specs.Prelude.{ℕ, ℤ, ◌+◌, ◌-◌, List, [], ◌∷◌, ◌++◌, length, take, drop, map as each, if◌then◌else◌}
use Rattle.std.specs.Ordering.{int_eq}
use Rattle.std.specs.FinMap as map
use Rattle.box_events.specs.declared.limits.TheConstants.{KEPT_EVENTS}
use Rattle.box_events.specs.declared.positions.Receipt.{Receipt}
use Rattle.box_events.specs.declared.requests.Post.{Post}
use Rattle.box_events.specs.declared.updates.Update.{Update}
use Rattle.box_events.specs.declared.updates.Update.TheVariants.{Common, Secret, Channel, Setting as SettingUpdate}
use Rattle.box_events.specs.declared.updates.Push.{Push}
use Rattle.box_events.specs.declared.updates.Push.TheVariants.{Container}
use Rattle.box_events.specs.declared.settings.Setting.{Setting}
use Rattle.box_events.specs.Events.{EventView, added}
use Rattle.box_events.specs.Boxes.{ending}
use Rattle.box_events.specs.SettingLists.{Dated}
use Rattle.box_server.specs.Servers.{ChannelBox, ServerState, lane_end}
use Rattle.box_server.specs.Entries.{Entry, to_common, to_secret, to_channel, to_settings, entries_of, lane_of, raise_of}

-- an event is appended to a channel's box, a new one where nothing was posted to it
abbrev pub with_event : List ChannelBox → ℤ → EventView → List ChannelBox
with_event [] id e = record { id = id; first = 0; events = e ∷ [] } ∷ []
with_event (c ∷ cs) id e = if int_eq c.id id then record c { events = c.events ++ e ∷ [] } ∷ cs else c ∷ with_event cs id e

-- an entry is applied
abbrev pub applied : ServerState → Entry → ServerState
applied s (to_common e) = record s { common = s.common ++ e ∷ [] }
applied s (to_secret body) = record s { secret = s.secret ++ added body ∷ [] }
applied s (to_channel id e) = record s { channels = with_event s.channels id e }
applied s (to_settings x) = record s { settings = s.settings ++ record { setting = x; date = s.date } ∷ [] }

-- entries are applied in order
abbrev pub applied_all : ServerState → List Entry → ServerState
applied_all s [] = s
applied_all s (x ∷ xs) = applied_all (applied s x) xs

-- how many events of a channel go, so that the last 500 are kept
abbrev pub excess : ChannelBox → ℕ
excess c = length c.events - KEPT_EVENTS

-- the last 500 events are kept; the box begins where the others ended
abbrev pub cut : ChannelBox → ChannelBox
cut c = record c { first = c.first + ending (take (excess c) c.events); events = drop (excess c) c.events }

-- what a post's receipt tells: where the server is
abbrev pub receipt_of : ServerState → Receipt
receipt_of s = record { pts = ending s.common; qts = ending s.secret; date = s.date; seq = length s.settings }

-- a receipt is kept under a random id
abbrev pub received : ServerState → ℤ → ServerState
received s random_id = record s { receipts = map.insert s.receipts random_id (receipt_of s) }

-- the server after a new post
unfoldable pub posted : ServerState → ℤ → List Post → ServerState
posted s random_id posts =
    let t = applied_all s (entries_of posts) in
    received (record t { channels = each cut t.channels }) random_id

-- an entry as an update: an event with the number at which it ends, or a setting
abbrev pub update_of : ServerState → Entry → Update
update_of s (to_common e) = Common e (lane_end s (lane_of (to_common e)) + raise_of (to_common e))
update_of s (to_secret body) = Secret body (lane_end s (lane_of (to_secret body)) + raise_of (to_secret body))
update_of s (to_channel id e) = Channel id e (lane_end s (lane_of (to_channel id e)) + raise_of (to_channel id e))
update_of s (to_settings x) = SettingUpdate x

-- the updates of entries, each as the server is when it is applied
abbrev pub updates_of : ServerState → List Entry → List Update
updates_of s [] = []
updates_of s (x ∷ xs) = update_of s x ∷ updates_of (applied s x) xs

-- the settings of entries, in order
abbrev pub settings_of : List Entry → List Setting
settings_of [] = []
settings_of (to_common e ∷ xs) = settings_of xs
settings_of (to_secret body ∷ xs) = settings_of xs
settings_of (to_channel id e ∷ xs) = settings_of xs
settings_of (to_settings x ∷ xs) = x ∷ settings_of xs

-- a setting with a date
abbrev pub dated_with : ℕ → Setting → Dated
dated_with date x = record { setting = x; date = date }

-- the numbers of the first and the last of settings that follow a seq; both are 0 where there is none
abbrev pub first_number : ℕ → List Setting → ℕ
first_number seq [] = 0
first_number seq (x ∷ xs) = seq + 1

abbrev pub last_number : ℕ → List Setting → ℕ
last_number seq [] = 0
last_number seq (x ∷ xs) = seq + length (x ∷ xs)

-- the push of a new post: its updates in order, the server's date, and the numbers of its settings
unfoldable pub push_of : ServerState → List Post → Push
push_of s posts =
    let xs = entries_of posts in
    let seq = length s.settings in
    Container (updates_of s xs) s.date (first_number seq (settings_of xs)) (last_number seq (settings_of xs))
