-- Where each channel stands of a client that has heard all that it asked an honest server for. This project's own.
use Rattle.std.specs.Prelude.{◌≡◌, ◌≤◌, ℕ, ℤ, List, [], ◌∷◌, ◌++◌, length, Bool, true, false, Option, Some, None, slice_get}
use Rattle.box_events.specs.declared.replies.ChannelReply.{ChannelReply}
use Rattle.box_events.specs.declared.replies.Reply.TheVariants.{Channel}
use Rattle.channel_box.specs.States.{ChannelState}
use Rattle.channel_box.specs.Looks.{waits}
use Rattle.channel_box.specs.Steps.{ask_of, is_asking}
use Rattle.box_server.specs.Answers.{answer}
use Rattle.box_server.specs.Servers.{ServerState, channel_end, channel_in}
use Rattle.box_client.specs.Asking.{is_one_asking}
use Rattle.box_client.specs.States.{ClientState}
use Rattle.box_world.specs.Agreeing.{Agrees, is_last_part}
use Rattle.box_world.specs.Streams.{Doing, Frame, Honest, begun, heard_frame, past_of, told_reply}
use Rattle.headline.specs.CatchingUp.{heard_all}

-- whether the channel waits for an answer
abbrev pub channel_waits : Option ChannelState → Bool
channel_waits None = false
channel_waits (Some d) = waits d

-- from here on the channel at this index asks for no difference
abbrev pub ChannelAsksNoMore : ℕ → ClientState → List Frame → Type 0
ChannelAsksNoMore i c [] = channel_waits (slice_get c.channels i) ≡ false
ChannelAsksNoMore i c (f ∷ fs) = (channel_waits (slice_get c.channels i) ≡ false) × ChannelAsksNoMore i (heard_frame c f) fs

-- a channel at an index stands at or past where a server's channel of its id is
abbrev pub IsPastAt : ServerState → ChannelState → List ChannelState → ℕ → Type 0
IsPastAt s d ds i = (e : ChannelState) × (slice_get ds i ≡ Some e) × (e.id ≡ d.id) × (channel_end (channel_in s.channels d.id) ≤ e.lane.at)

-- The last answer to the channel of an id, which stands at this index: the last part of its difference, or its last messages, where it was too far behind. It
-- is the answer of the server as it was after so many of its history, from m on; and after all the frames the channel stands at or past where that was.
pub record LastChannelAnswer (h : List Doing) (c : ClientState) (m : ℕ) (fs : List Frame) (i : ℕ) (id : ℤ) : Type 0 where
  pub before : List Frame
  pub number : ℕ
  pub reply : ChannelReply
  pub after : List Frame
  pub moment : ℕ
  pub channel : ChannelState
  pub parts : fs ≡ before ++ told_reply number (Channel reply) ∷ after
  pub at : slice_get (heard_all c before).channels i ≡ Some channel
  pub own : channel.id ≡ id
  pub asked : is_asking number channel.lane.mode ≡ true
  pub answers : Channel reply ≡ answer (past_of h moment).server (ask_of channel number).request
  pub final : is_last_part reply ≡ true
  pub last : ChannelAsksNoMore i (heard_all c (before ++ told_reply number (Channel reply) ∷ [])) after
  pub from : m ≤ moment
  pub upto : moment ≤ length h
  pub past : IsPastAt (past_of h moment).server channel (heard_all c fs).channels i

-- A client that hears an honest server's frames until it asks no more: of each channel that it watches.
abbrev pub HonestSessionsCatchUpByChannel : Type 0
HonestSessionsCatchUpByChannel =
    (h : List Doing) (c : ClientState) (m : ℕ) (fs : List Frame) → m ≤ length h → Agrees (past_of h m).server (past_of h m).boxes c → Honest h (begun c) m fs → is_one_asking (heard_all (begun c) fs) ≡ false
    → (i : ℕ) (d : ChannelState) → slice_get c.channels i ≡ Some d → LastChannelAnswer h (begun c) m fs i d.id
