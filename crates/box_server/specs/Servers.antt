-- What a server keeps, apart from the code.
-- From "Working with Updates" (core.telegram.org/api/updates): a common box (pts), a secret box (qts), a box for each channel, and numbered
-- settings (seq). That a channel keeps its last events alone, settings with dates, and receipts are this project's own.
use Rattle.std.specs.Prelude.{ℕ, ℤ, ◌+◌, max, List, [], ◌∷◌, length, if◌then◌else◌}
use Rattle.std.specs.Ordering.{int_cmp, int_eq}
use Rattle.std.specs.FinMap as map
use Rattle.box_events.specs.declared.positions.State.{State}
use Rattle.box_events.specs.declared.positions.Receipt.{Receipt}
use Rattle.box_events.specs.declared.positions.LaneName.{LaneName}
use Rattle.box_events.specs.declared.positions.LaneName.TheVariants.{Common, Secret, Channel, Seq}
use Rattle.box_events.specs.Events.{EventView}
use Rattle.box_events.specs.Boxes.{ending}
use Rattle.box_events.specs.SettingLists.{Dated}

-- a channel's box: the events that are kept, and the number at which they begin
pub record ChannelBox : Type 0 where
  pub id : ℤ
  pub first : ℕ
  pub events : List EventView

-- receipts by random ids
abbrev pub Receipts : Type 0
Receipts = map.FinMap int_cmp Receipt

-- The common and the secret box, channels in the order of their first posts, all settings in the order in which they were set, and receipts.
pub record ServerState : Type 0 where
  pub date : ℕ
  pub common : List EventView
  pub secret : List EventView
  pub channels : List ChannelBox
  pub settings : List Dated
  pub receipts : Receipts

-- a server to which nothing was posted
abbrev pub new_server : ServerState
new_server = record { date = 0; common = []; secret = []; channels = []; settings = []; receipts = map.empty }

-- where a channel's box ends
abbrev pub channel_end : ChannelBox → ℕ
channel_end c = c.first + ending c.events

-- a channel to which nothing was posted
abbrev pub empty_channel : ℤ → ChannelBox
empty_channel id = record { id = id; first = 0; events = [] }

-- the box of a channel; an empty one where nothing was posted to it
abbrev pub channel_in : List ChannelBox → ℤ → ChannelBox
channel_in [] id = empty_channel id
channel_in (c ∷ cs) id = if int_eq c.id id then c else channel_in cs id

-- where a box ends; for settings, how many there are
abbrev pub lane_end : ServerState → LaneName → ℕ
lane_end s Common = ending s.common
lane_end s Secret = ending s.secret
lane_end s (Channel id) = channel_end (channel_in s.channels id)
lane_end s Seq = length s.settings

-- where a server is
abbrev pub state_of : ServerState → State
state_of s = record { pts = ending s.common; qts = ending s.secret; date = s.date; seq = length s.settings }

-- a server whose clock shows a date; its date never falls
abbrev pub dated_at : ServerState → ℕ → ServerState
dated_at s date = record s { date = max s.date date }
