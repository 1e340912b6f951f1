-- How a server grows, and where the updates of a push lie. This project's own.
use Rattle.std.specs.Prelude.{◌≡◌, ◌≤◌, ℕ, ℤ, ◌+◌, ◌-◌, List, [], ◌∷◌, ◌++◌, if◌then◌else◌}
use Rattle.std.specs.List.{All}
use Rattle.std.specs.Ordering.{int_eq}
use Rattle.box_events.specs.declared.settings.Setting.{Setting}
use Rattle.box_events.specs.declared.updates.Update.{Update}
use Rattle.box_events.specs.declared.updates.Update.TheVariants.{Common, Secret, Channel, ChannelTooLong, Setting as SettingUpdate}
use Rattle.box_events.specs.Events.{EventView, added, count_of}
use Rattle.box_events.specs.Boxes.{ending, Between}
use Rattle.box_events.specs.SettingLists.{Dated}
use Rattle.box_server.specs.Servers.{ChannelBox, ServerState, channel_in}
use Rattle.box_server.specs.Entries.{Entry, to_common, to_secret, to_channel, to_settings}

-- the whole box of a channel: the events that are no longer kept, and those that are
pub record IsWhole (whole : List EventView) (c : ChannelBox) : Type 0 where
  pub gone : List EventView
  pub events : whole ≡ gone ++ c.events
  pub first : c.first ≡ ending gone

-- further events came, and some at the head may be gone
pub record HasMore (old new : ChannelBox) (more : List EventView) : Type 0 where
  pub gone : List EventView
  pub events : old.events ++ more ≡ gone ++ new.events
  pub first : new.first ≡ old.first + ending gone

-- each box has further events after it, settings that aren't dated before the server came, and the date didn't fall
pub record GrowsTo (old new : ServerState) : Type 0 where
  pub common : (more : List EventView) × (new.common ≡ old.common ++ more)
  pub secret : (more : List EventView) × (new.secret ≡ old.secret ++ more)
  pub channel : (id : ℤ) → (more : List EventView) × HasMore (channel_in old.channels id) (channel_in new.channels id) more
  pub settings : (more : List Dated) × (new.settings ≡ old.settings ++ more) × All (λ e. old.date ≤ e.date) more
  pub date : old.date ≤ new.date

-- the events that entries append to a channel's box
abbrev pub channel_events : ℤ → List Entry → List EventView
channel_events id [] = []
channel_events id (to_common e ∷ xs) = channel_events id xs
channel_events id (to_secret body ∷ xs) = channel_events id xs
channel_events id (to_channel i e ∷ xs) = if int_eq i id then e ∷ channel_events id xs else channel_events id xs
channel_events id (to_settings x ∷ xs) = channel_events id xs

-- an event ends at a number of a box
abbrev pub LiesAt : List EventView → ℕ → EventView → Type 0
LiesAt box pts e = Between box (pts - count_of e) pts (e ∷ [])

-- each event of these updates lies in its box, a channel's in its whole box
abbrev pub AllLie : ServerState → (ℤ → List EventView) → List Update → Type 0
AllLie s whole [] = Unit {0}
AllLie s whole (Common e pts ∷ us) = LiesAt s.common pts e × AllLie s whole us
AllLie s whole (Secret body qts ∷ us) = LiesAt s.secret qts (added body) × AllLie s whole us
AllLie s whole (Channel id e pts ∷ us) = LiesAt (whole id) pts e × AllLie s whole us
AllLie s whole (ChannelTooLong id ∷ us) = AllLie s whole us
AllLie s whole (SettingUpdate x ∷ us) = AllLie s whole us

-- the settings of updates, in order
abbrev pub pushed_settings : List Update → List Setting
pushed_settings [] = []
pushed_settings (Common e pts ∷ us) = pushed_settings us
pushed_settings (Secret body qts ∷ us) = pushed_settings us
pushed_settings (Channel id e pts ∷ us) = pushed_settings us
pushed_settings (ChannelTooLong id ∷ us) = pushed_settings us
pushed_settings (SettingUpdate x ∷ us) = x ∷ pushed_settings us
