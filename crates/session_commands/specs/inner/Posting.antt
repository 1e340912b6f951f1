-- What the parts of `post` do. This project's own.
use Rattle.std.specs.Prelude.{◌≡◌, ◌⊎◌, ℕ, ◌<◌, ◌≤◌, List, length, codes, Result, Ok, Err, Vec}
use Rattle.std.specs.declared.alloc.Global.{Global}
use Rattle.tl_numbers.specs.Bytes.{AreBytes}
use Rattle.tl_base.specs.Outside.{View, IsThere}
use Rattle.tl_base.specs.Packets.{IsPacketLength}
use Rattle.tl_base.specs.declared.fault.Fault.{Fault}
use Rattle.tl_base.specs.declared.fault.Fault.TheVariants as frame_fault
use Rattle.box_events.specs.declared.limits.TheConstants.{MAX_FRAME_BYTES}
use Rattle.box_events.specs.declared.requests.Numbered.{Numbered}
use Rattle.wire_profile.specs.declared.wire_fault.WireFault.{WireFault}
use Rattle.wire_profile.specs.Indexes.{ProfileView}
use Rattle.box_wire.specs.Kinds.{calls}
use Rattle.box_wire.specs.Framing.{WireRefused}
use Rattle.update_sessions.specs.Packed.{MeansCall}
use Rattle.outside.specs.Loading.{PeerAs, Refuses}
use Rattle.outside.specs.declared.stop.Stop.{Stop}
use Rattle.outside.specs.declared.stop.Stop.TheVariants as stop
use Rattle.outside.specs.declared.stop.LoadError.{LoadError}
use Rattle.fault_lines.specs.Messages.{wire_line}
use Rattle.session_commands.specs.declared.sending.Sending.{Sending}
use Rattle.session_commands.specs.Linked.{KeepsFiles, LeavesLinks}
use Rattle.session_commands.specs.Lines.{long_call_line}
use Rattle.session_commands.specs.Post.{Outcome, OfBody, shows, peer}

-- ---- a call

-- the line says why the bytes are no call
abbrev pub TellsNoCall : ProfileView → List ℕ → List ℕ → Type 0
TellsNoCall p b line = (fault : WireFault) × WireRefused p calls b fault × (line ≡ wire_line (codes "input") fault)

-- the line says that they are one that is too long
abbrev pub TellsLong : ProfileView → List ℕ → List ℕ → Type 0
TellsLong p b line = (c : Numbered) × MeansCall p c b × (MAX_FRAME_BYTES < length b) × (line ≡ long_call_line (length b))

-- the number of the call that the bytes mean
abbrev pub NumbersCall : ProfileView → List ℕ → Result ℕ LoadError → Type 0
NumbersCall p b (Ok n) = (c : Numbered) × MeansCall p c b × (c.number ≡ n)
NumbersCall p b (Err fault) = Refuses (TellsNoCall p b) fault

-- the line says why bytes are not sent
abbrev pub TellsUnsent : ProfileView → List ℕ → List ℕ → Type 0
TellsUnsent p b line = AreBytes b × (TellsNoCall p b line ⊎ TellsLong p b line)

-- a call that may be sent
pub record MaySendCall (p : ProfileView) (b : List ℕ) (n : ℕ) : Type 0 where
  pub call : Numbered
  pub are : AreBytes b
  pub means : MeansCall p call b
  pub number : call.number ≡ n
  pub fits : IsPacketLength (length b)

abbrev pub Sends : ProfileView → List ℕ → Result Sending LoadError → Type 0
Sends p b (Ok s) = (s.bytes ≡ b) × MaySendCall p b s.number
Sends p b (Err fault) = Refuses (TellsUnsent p b) fault

-- ---- a packet that comes

-- there is a link to come, and room for the address and for what is sent
pub record HasRoomToCall (address sent : List ℕ) (v : View) : Type 0 where
  pub coming : 0 < length v.links
  pub name : length address ≤ v.room
  pub bytes : length sent ≤ v.room

-- ---- the line of a packet's bytes

-- the other end's fault says why bytes are no frame
abbrev pub TellsNoFrame : Fault WireFault → Stop → Type 0
TellsNoFrame (frame_fault.Refused cause) s = PeerAs (wire_line (codes "peer") cause) s
TellsNoFrame frame_fault.Memory s = s ≡ stop.Memory

abbrev pub GivesLineBy : (Outcome → Type 0) → Result (Vec ℕ Global) Stop → Type 0
GivesLineBy Of (Ok line) = Of (shows line.items)
GivesLineBy Of (Err (stop.Peer line)) = Of (peer line.items)
GivesLineBy Of (Err stop.Memory) = Unit {0}
GivesLineBy Of (Err e) = ⊥

abbrev pub GivesLine : ProfileView → ℕ → List ℕ → Result (Vec ℕ Global) Stop → Type 0
GivesLine p n body result = GivesLineBy (OfBody p n body) result

-- ---- what is left as it was

-- files, State and moments are as before
pub record KeepsMost (v w : View) : Type 0 where
  pub rest : KeepsFiles v w
  pub state : (w.written.state ≡ v.written.state) × (w.state_name ≡ v.state_name)

-- files, State and moments are as before, and links too where there is no file of this name
pub record KeepsInputAt (name : List ℕ) (v w : View) : Type 0 where
  pub most : KeepsMost v w
  pub links : LeavesLinks (IsThere name v) v w
