-- Messages in the bytes of packets. This project's own.
use Rattle.std.specs.Prelude.{◌≡◌, ℕ, ◌≤◌, List, length, Bool, true, false, eqb, Some, slice_get, Result, Ok, Err}
use Rattle.box_events.specs.declared.replies.Frame.{Frame}
use Rattle.box_events.specs.declared.requests.Numbered.{Numbered}
use Rattle.wire_profile.specs.Indexes.{ProfileView}
use Rattle.wire_values.specs.Calls.{call_tree}
use Rattle.wire_values.specs.Frames.{frame_tree}
use Rattle.box_wire.specs.Framing.{Framed}
use Rattle.box_wire.specs.Kinds.{calls, frames}
use Rattle.box_world.specs.Worlds.{Packet}
use Rattle.box_world.specs.Fitting.{CallFits, FrameFits, IsHearable}
use Rattle.box_world.specs.declared.fault.StepFault.{StepFault}
use Rattle.tl_base.specs.declared.fault.Fault.{Fault}
use Rattle.box_world.specs.declared.fault.StepFault.TheVariants.{NoClient, NoPacket, WrongEnd, PoolFull}
use Rattle.tl_base.specs.declared.fault.Fault.TheVariants.{Refused, Memory}
use Rattle.update_world.specs.declared.reading.Asked.{Asked}
use Rattle.update_world.specs.declared.sent.SentPacket.{SentPacket}
use Rattle.update_world.specs.declared.sent.End.{End}
use Rattle.update_world.specs.declared.sent.End.TheVariants.{Clients, Server, Client}
use Rattle.update_world.specs.Spelled.{AreSent}

-- the bytes spell the frame, and are read as it
pub record CarriesFrame (p : ProfileView) (bytes : List ℕ) (f : Frame) : Type 0 where
  pub fits : FrameFits f
  pub spelled : Framed p frames (frame_tree f) bytes

-- likewise a call
pub record CarriesCall (p : ProfileView) (bytes : List ℕ) (n : Numbered) : Type 0 where
  pub fits : CallFits n
  pub spelled : Framed p calls (call_tree n) bytes

-- there is one that they carry
abbrev pub HasFrame : ProfileView → List ℕ → Type 0
HasFrame p bytes = (f : Frame) × CarriesFrame p bytes f

abbrev pub HasCall : ProfileView → List ℕ → Type 0
HasCall p bytes = (n : Numbered) × CarriesCall p bytes n

-- there are messages that the packets are
abbrev pub StandFor : ProfileView → List SentPacket → Type 0
StandFor p pool = (ms : List Packet) × AreSent p pool ms

-- client k hears pushes, and what goes to it
abbrev pub hears : ℕ → End → Bool
hears k Clients = true
hears k (Server j) = false
hears k (Client j) = eqb j k

-- the packet of this number, which client k hears, is a frame that a client can take
pub record HasFrameFor (p : ProfileView) (pool : List SentPacket) (k m : ℕ) (f : Frame) : Type 0 where
  pub sent : SentPacket
  pub there : slice_get pool m ≡ Some sent
  pub to : hears k sent.to ≡ true
  pub hearable : IsHearable f
  pub only : (g : Frame) → CarriesFrame p sent.bytes g → f ≡ g

-- the packet of this number goes to another end
pub record IsNotFor (pool : List SentPacket) (k m : ℕ) : Type 0 where
  pub sent : SentPacket
  pub there : slice_get pool m ≡ Some sent
  pub to : hears k sent.to ≡ false

abbrev pub FrameFor : ProfileView → List SentPacket → ℕ → ℕ → Result Frame (Fault StepFault) → Type 0
FrameFor p pool k m (Ok f) = HasFrameFor p pool k m f
FrameFor p pool k m (Err (Refused (NoClient n))) = ⊥
FrameFor p pool k m (Err (Refused (NoPacket n))) = (n ≡ m) × (length pool ≤ m)
FrameFor p pool k m (Err (Refused (WrongEnd n))) = (n ≡ m) × IsNotFor pool k m
FrameFor p pool k m (Err (Refused (PoolFull bytes))) = ⊥
FrameFor p pool k m (Err Memory) = Unit {0}

-- the packet of this number is a client's request
pub record HasCallFrom (p : ProfileView) (pool : List SentPacket) (m : ℕ) (a : Asked) : Type 0 where
  pub sent : SentPacket
  pub there : slice_get pool m ≡ Some sent
  pub to : sent.to ≡ Server a.from
  pub only : (n : Numbered) → CarriesCall p sent.bytes n → a.call ≡ n

abbrev pub is_request : End → Bool
is_request Clients = false
is_request (Server j) = true
is_request (Client j) = false

-- the packet of this number goes to a client
pub record IsNoCall (pool : List SentPacket) (m : ℕ) : Type 0 where
  pub sent : SentPacket
  pub there : slice_get pool m ≡ Some sent
  pub to : is_request sent.to ≡ false

abbrev pub AsksFrom : ProfileView → List SentPacket → ℕ → Result Asked (Fault StepFault) → Type 0
AsksFrom p pool m (Ok a) = HasCallFrom p pool m a
AsksFrom p pool m (Err (Refused (NoClient n))) = ⊥
AsksFrom p pool m (Err (Refused (NoPacket n))) = (n ≡ m) × (length pool ≤ m)
AsksFrom p pool m (Err (Refused (WrongEnd n))) = (n ≡ m) × IsNoCall pool m
AsksFrom p pool m (Err (Refused (PoolFull bytes))) = ⊥
AsksFrom p pool m (Err Memory) = Unit {0}
