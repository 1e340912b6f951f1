-- From one moment of a client to a later one. This project's own.
use Rattle.std.specs.Prelude.{◌≡◌, ◌≤◌, ℕ, List, Some, slice_get}
use Rattle.channel_box.specs.States.{ChannelState}
use Rattle.box_client.specs.States.{ClientState}

-- each channel that was watched is watched still, at the same index, and its pts didn't fall
abbrev pub ChannelsGoOn : List ChannelState → List ChannelState → Type 0
ChannelsGoOn before after = (i : ℕ) (e : ChannelState) → slice_get before i ≡ Some e → (f : ChannelState) × (slice_get after i ≡ Some f) × (f.id ≡ e.id) × (e.lane.at ≤ f.lane.at)

-- the restarts of the common and the secret box didn't move, and no position fell
pub record GoesForward (c d : ClientState) : Type 0 where
  pub common : (d.common.restart ≡ c.common.restart) × (c.common.at ≤ d.common.at)
  pub secret : (d.secret.restart ≡ c.secret.restart) × (c.secret.at ≤ d.secret.at)
  pub settings : c.settings.at ≤ d.settings.at
  pub channels : ChannelsGoOn c.channels d.channels

-- its common and its secret box are whole: they begin with the server's first event
abbrev pub IsWhole : ClientState → Type 0
IsWhole c = (c.common.restart ≡ 0) × (c.secret.restart ≡ 0)
