-- What a client does in a session: all is asked about, and then each frame is heard and what is due is asked, until it asks no more.
-- This project's own.
use Rattle.std.specs.Prelude.{◌≡◌, true, Option, Some, None}
use Rattle.box_events.specs.declared.requests.Numbered.{Numbered}
use Rattle.box_events.specs.declared.replies.Frame.{Frame}
use Rattle.box_events.specs.declared.replies.Frame.TheVariants.{Push, Reply}
use Rattle.box_client.specs.States.{ClientState}
use Rattle.box_client.specs.Pushes.{pushed}
use Rattle.box_client.specs.Replies.{Outcome, ignored, refuses, becomes, replied}
use Rattle.box_client.specs.Asking.{ticks, is_one_asking}
use Rattle.box_client.specs.declared.fault.ClientFault.{ClientFault}
use Rattle.box_world.specs.Worlds.{after_reply}
use Rattle.wire_profile.specs.Indexes.{ProfileView}
use Rattle.update_sessions.specs.Packed.{MeansFrame, SpellsCall}
use Rattle.update_sessions.specs.Exchanges.{Side}

-- a client after a frame, before it asks
abbrev pub hears : ClientState → Frame → ClientState
hears c (Push p) = pushed c p
hears c (Reply n r) = after_reply c (replied c n r)

-- why a client refuses a frame
abbrev pub cause_in : Outcome → Option ClientFault
cause_in ignored = None
cause_in (refuses cause) = Some cause
cause_in (becomes d) = None

abbrev pub cause_of : ClientState → Frame → Option ClientFault
cause_of c (Push p) = None
cause_of c (Reply n r) = cause_in (replied c n r)

-- a frame is taken while an answer is waited for, where it isn't refused
pub record IsTaken (c : ClientState) (f : Frame) : Type 0 where
  pub asking : is_one_asking c ≡ true
  pub clear : cause_of c f ≡ None

-- a client's side of an exchange: it asks for what is due after each frame
abbrev pub client_side : ProfileView → Side ClientState Frame Numbered
client_side p = record {
  means = MeansFrame p;
  spells = SpellsCall p;
  takes = IsTaken;
  sends = λ c f. (ticks (hears c f)).asks;
  next = λ c f. (ticks (hears c f)).client;
}
