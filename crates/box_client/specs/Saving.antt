-- What a client saves, and a client that is loaded. This project's own.
use Rattle.std.specs.Prelude.{◌≡◌, ℕ, ◌+◌, ℤ, List, [], ◌∷◌, ◌++◌, length, map, Bool, true, ◌&&◌, ◌||◌, eqb, ltb, leb, cond, Option, Some, None}
use Rattle.std.specs.List.{sum_by}
use Rattle.std.specs.Ordering.{nat_cmp, is_lt}
use Rattle.std.specs.Cmp.Lexicographic.{slice_cmp}
use Rattle.std.specs.FinMap as map_of
use Rattle.box_events.specs.Events.{EventView, count_of}
use Rattle.box_events.specs.declared.limits.TheConstants.{MAX_CHANNELS}
use Rattle.box_events.specs.declared.positions.LaneName.{LaneName}
use Rattle.box_events.specs.declared.positions.LaneName.TheVariants.{Common, Secret, Channel}
use Rattle.box_events.specs.declared.settings.Setting.{Setting}
use Rattle.box_events.specs.declared.saved.Saved.{Saved}
use Rattle.box_events.specs.declared.saved.SavedLane.{SavedLane}
use Rattle.box_events.specs.declared.saved.SavedChannel.{SavedChannel}
use Rattle.pts_machine.specs.States.{LaneState}
use Rattle.pts_machine.specs.Steps.{loaded}
use Rattle.box_events.specs.SettingLists.{Values}
use Rattle.pts_machine.specs.Rows.{values_of}
use Rattle.pts_machine.specs.SeqStates.{loaded as settings_loaded}
use Rattle.channel_box.specs.States.{ChannelState, is_in}
use Rattle.box_client.specs.declared.loading.TheConstants.{MAX_NEXT}
use Rattle.box_client.specs.States.{ClientState}
use Rattle.box_client.specs.Messages.{are_messages}

-- saving: what is held, modes and flags are left out

abbrev pub lane_saved : LaneState EventView → SavedLane
lane_saved t = record { restart = t.restart; at = t.at; events = t.events }

abbrev pub channel_saved : ChannelState → SavedChannel
channel_saved c = record { id = c.id; lane = lane_saved c.lane; recent = c.recent }

-- it is what this channel saves
abbrev pub IsSavedOf : Option ChannelState → SavedChannel → Type 0
IsSavedOf None s = ⊥
IsSavedOf (Some c) s = s ≡ channel_saved c

abbrev pub setting_of : List ℕ × List ℕ → Setting
setting_of e = record { key = e.0; value = e.1 }

-- in byte order of keys
abbrev pub settings_saved : Values → List Setting
settings_saved table = map setting_of (map_of.entries table)

abbrev pub saved_of : ClientState → Saved
saved_of c = record {
  next = c.next;
  common = lane_saved c.common;
  secret = lane_saved c.secret;
  date = c.settings.date;
  seq = c.settings.at;
  settings = settings_saved c.settings.table;
  channels = map channel_saved c.channels;
}

-- loading

-- a lane ends where its events do
abbrev pub is_even : SavedLane → Bool
is_even l = eqb l.at (l.restart + sum_by count_of l.events)

-- the first channel whose lane isn't even
abbrev pub uneven_channel : List SavedChannel → Option LaneName
uneven_channel [] = None
uneven_channel (c ∷ cs) = cond (is_even c.lane) (uneven_channel cs) (Some (Channel c.id))

-- the first lane that isn't even, or that has an event of the secret box that is no message
abbrev pub uneven_lane : Saved → Option LaneName
uneven_lane s = cond (is_even s.common) (cond (is_even s.secret && are_messages s.secret.events) (uneven_channel s.channels) (Some Secret)) (Some Common)

-- the index of the first setting whose key isn't above the one before, counted from i
abbrev pub unsorted_from : ℕ → List ℕ → List Setting → Option ℕ
unsorted_from i k [] = None
unsorted_from i k (x ∷ xs) = cond (is_lt (slice_cmp nat_cmp k x.key)) (unsorted_from (i + 1) x.key xs) (Some i)

abbrev pub unsorted : List Setting → Option ℕ
unsorted [] = None
unsorted (x ∷ xs) = unsorted_from 1 x.key xs

-- an id comes again, or is one too many, after these
abbrev pub is_surplus : List ℤ → ℤ → Bool
is_surplus ids id = is_in id ids || leb MAX_CHANNELS (length ids)

-- the index of the first channel whose id does, after these ids
abbrev pub surplus_after : List ℤ → List SavedChannel → Option ℕ
surplus_after ids [] = None
surplus_after ids (c ∷ cs) = cond (is_surplus ids c.id) (Some (length ids)) (surplus_after (ids ++ c.id ∷ []) cs)

-- why nothing is loaded
pub data LoadCause : Type 0 where
  bad_next : ℕ → LoadCause
  bad_lane : LaneName → LoadCause
  bad_settings : ℕ → LoadCause
  bad_channels : ℕ → LoadCause

abbrev pub or_channels : Option ℕ → Option LoadCause
or_channels None = None
or_channels (Some i) = Some (bad_channels i)

abbrev pub or_settings : Option ℕ → Option LoadCause → Option LoadCause
or_settings None o = o
or_settings (Some i) o = Some (bad_settings i)

abbrev pub or_lane : Option LaneName → Option LoadCause → Option LoadCause
or_lane None o = o
or_lane (Some lane) o = Some (bad_lane lane)

-- a next number is from 1 to 2,000,000,000
abbrev pub is_next : ℕ → Bool
is_next n = ltb 0 n && leb n MAX_NEXT

-- the first cause
unfoldable pub load_cause : Saved → Option LoadCause
load_cause s = cond (is_next s.next) (or_lane (uneven_lane s) (or_settings (unsorted s.settings) (or_channels (surplus_after [] s.channels)))) (Some (bad_next s.next))

-- a channel and a client as after a restart
abbrev pub channel_loaded : SavedChannel → ChannelState
channel_loaded c = record { id = c.id; lane = loaded count_of c.lane.restart c.lane.events; flag = true; recent = c.recent }

abbrev pub client_loaded : Saved → ClientState
client_loaded s = record {
  next = s.next;
  common = loaded count_of s.common.restart s.common.events;
  secret = loaded count_of s.secret.restart s.secret.events;
  settings = settings_loaded s.seq s.date (values_of s.settings);
  flag = true;
  channels = map channel_loaded s.channels;
}
