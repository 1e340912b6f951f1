-- The fields of channels as channels. This project's own.
use Rattle.std.specs.Prelude.{◌≡◌, ◌≤◌, List, length}
use Rattle.box_events.specs.declared.limits.TheConstants.{MAX_CHANNELS}
use Rattle.channel_box.specs.declared.channels.Channels.TheInside.{Inside}
use Rattle.channel_box.specs.States.{ChannelView, states, ids_of, AreDistinct}

abbrev pub view_of : Inside → List ChannelView
view_of a = a.channels.items

-- what holds of the channels of every client: their ids stand in order, no two are one, and there are 64 at most
pub record IsWhole (a : Inside) : Type 0 where
  pub ids : a.ids.items ≡ ids_of (states a.channels.items)
  pub distinct : AreDistinct a.ids.items
  pub few : length a.ids.items ≤ MAX_CHANNELS
