-- Who asks a number, and where it stands: a request's answer finds its client where the request says. This project's own.
use Rattle.std.specs.Prelude.{◌≡◌, ◌<◌, ◌≤◌, ℕ, ℤ, pos, Option, Some, None, length}
use Rattle.box_events.specs.declared.limits.TheConstants.{MAX_CHANNELS}
use Rattle.box_events.specs.declared.requests.Request.{Request}
use Rattle.box_events.specs.declared.requests.Request.TheVariants.{Difference, Channel}
use Rattle.pts_machine.specs.declared.mode.Mode.TheVariants.{Asking}
use Rattle.channel_box.specs.States.{ChannelState}
use Rattle.box_client.specs.States.{ClientState}
use Rattle.box_world.specs.Agreeing.{Each}

-- a request, and the seq at which the settings stood when it was made, which it doesn't tell
pub record Asked : Type 0 where
  pub request : Request
  pub seq : ℕ

-- The group at these positions, date and seq may ask for this; for nothing it may not ask.
abbrev pub GroupAsks : Option Asked → ℕ → ℕ → ℕ → ℕ → Type 0
GroupAsks None p q date seq = ⊥
GroupAsks (Some a) p q date seq = (a.request ≡ Difference (pos p) (pos q) date) × (a.seq ≡ seq)

abbrev pub ChannelAsks : Option Asked → ℤ → ℕ → Type 0
ChannelAsks None id p = ⊥
ChannelAsks (Some a) id p = a.request ≡ Channel id (pos p)

abbrev pub ChannelAsksBy : ℕ → Option Asked → ChannelState → Type 0
ChannelAsksBy n o d = d.lane.mode ≡ Asking n → ChannelAsks o d.id d.lane.at

-- whoever asks the number asks for this, from where it stands; for nothing: nobody asks it
pub record AskBy (n : ℕ) (o : Option Asked) (c : ClientState) : Type 0 where
  pub group : c.common.mode ≡ Asking n → GroupAsks o c.common.at c.secret.at c.settings.date c.settings.at
  pub channels : Each (ChannelAsksBy n o) c.channels

-- the number was given, and whoever still asks it stands where the request says
pub record Awaits (n : ℕ) (a : Asked) (c : ClientState) : Type 0 where
  pub given : n < c.next
  pub asks : AskBy n (Some a) c

-- no number is asked that wasn't given
abbrev pub Below : ClientState → Type 0
Below c = (n : ℕ) → c.next ≤ n → AskBy n None c

-- a client goes on without asking, and stands still where it asks; it watches no more channels than it may
pub record Still (c d : ClientState) : Type 0 where
  pub next : d.next ≡ c.next
  pub few : length c.channels ≤ MAX_CHANNELS → length d.channels ≤ MAX_CHANNELS
  pub asks : (n : ℕ) (o : Option Asked) → AskBy n o c → AskBy n o d
