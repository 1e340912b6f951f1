-- Frames and clients whose dates a request can carry. This project's own.
use Rattle.std.specs.Prelude.{◌≡◌, ℕ, ◌<◌, ◌^◌, Some}
use Rattle.std.specs.FinMap as map
use Rattle.box_events.specs.declared.updates.Push.{Push}
use Rattle.box_events.specs.declared.updates.Push.TheVariants.{TooLong, Container}
use Rattle.box_events.specs.declared.replies.Reply.{Reply}
use Rattle.box_events.specs.declared.replies.Reply.TheVariants.{State, Empty, Difference, Channel, Receipt, Error}
use Rattle.box_events.specs.declared.replies.Frame.{Frame}
use Rattle.box_events.specs.declared.replies.Frame.TheVariants as frame
use Rattle.pts_machine.specs.Packs.{Pack}
use Rattle.box_client.specs.States.{ClientState}

-- the date of a container, and of the state that a difference brings, is below 2^31
abbrev pub IsDatedPush : Push → Type 0
IsDatedPush TooLong = Unit {0}
IsDatedPush (Container us date start seq) = date < 2 ^ 31

abbrev pub IsDatedReply : Reply → Type 0
IsDatedReply (State state) = Unit {0}
IsDatedReply (Empty date seq) = date < 2 ^ 31
IsDatedReply (Difference news secrets others settings state last) = state.date < 2 ^ 31
IsDatedReply (Channel reply) = Unit {0}
IsDatedReply (Receipt receipt) = Unit {0}
IsDatedReply (Error code text) = Unit {0}

abbrev pub IsDatedFrame : Frame → Type 0
IsDatedFrame (frame.Push p) = IsDatedPush p
IsDatedFrame (frame.Reply n r) = IsDatedReply r

-- a client's date and those of the settings that it holds
pub record IsDatedClient (c : ClientState) : Type 0 where
  pub date : c.settings.date < 2 ^ 31
  pub held : (start : ℕ) (x : ℕ × Pack) → map.get c.settings.held start ≡ Some x → x.1.date < 2 ^ 31
