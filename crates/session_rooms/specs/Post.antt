-- What `post` does. This project's own.
use Rattle.std.specs.Prelude.{ℕ, ◌<◌, ◌≤◌, List, length, codes, Bool, true, false, Option, Some, None}
use Rattle.tl_numbers.specs.Bytes.{AreBytes}
use Rattle.tl_base.specs.Packets.{packet}
use Rattle.tl_base.specs.declared.host.Slot.TheVariants as slots
use Rattle.tl_base.specs.declared.host.Out.TheVariants as outs
use Rattle.tl_schema.specs.Types.{call}
use Rattle.tl_types.specs.Values.{ValueView}
use Rattle.tl_types.specs.Spelling.{Spells}
use Rattle.box_events.specs.declared.limits.TheConstants.{MAX_FRAME_BYTES}
use Rattle.box_events.specs.declared.requests.Numbered.{Numbered}
use Rattle.wire_profile.specs.declared.wire_fault.WireFault.{WireFault}
use Rattle.wire_profile.specs.Indexes.{ProfileView}
use Rattle.box_wire.specs.Kinds.{calls}
use Rattle.box_wire.specs.Framing.{WireRefused}
use Rattle.outside.specs.Answer.{done, refused, link_fault_line}
use Rattle.outside.specs.declared.status.Status.{Status}
use Rattle.outside.specs.declared.status.Status.TheVariants.{LinkFault, PeerFault}
use Rattle.fault_lines.specs.Messages.{wire_line}
use Rattle.tl_base.specs.declared.packet.PacketCause.TheVariants.{Ended}
use Rattle.fault_lines.specs.Packets.{packet_line}
use Rattle.outside.specs.Events.{Event, connected}
use Rattle.outside.specs.Packets.{PacketView, whole, none, wrong, broken, TakesPacket}
use Rattle.outside.specs.Pieces.{ReadsFile, Tells, Writes}
use Rattle.outside.specs.Printing.{Prints, Unread}
use Rattle.outside.specs.Steps.{Step, Calls, Then}
use Rattle.schema_files.specs.Causes.{JsonCause}
use Rattle.schema_files.specs.JsonInput.{IsJsonOf, JsonRefused}
use Rattle.schema_files.specs.Lines.{json_line}
use Rattle.schema_files.specs.declared.json_input.TheConstants.{JSON_BYTES}
use Rattle.codec_rooms.specs.Typed.{OfCommand}
use Rattle.update_commands.specs.Profile.{OfProfile}
use Rattle.update_sessions.specs.Packed.{MeansCall}
use Rattle.session_commands.specs.Lines.{long_call_line}
use Rattle.session_commands.specs.Post.{Outcome, OfBody, shows, peer}

-- ---- what comes back

-- a line for Output; or the line that says what the other end did wrong
abbrev pub told_as : Outcome → Step Status
told_as (shows line) = Prints (done line)
told_as (peer line) = Tells line PeerFault

-- what is made of a packet's bytes is told
abbrev pub TellsBody : ProfileView → ℕ → List ℕ → Step Status
TellsBody p n body t status = (o : Outcome) × OfBody p n body o × told_as o t status

abbrev pub link_lost : Step Status
link_lost = Tells link_fault_line LinkFault

-- of the first packet, or of none
abbrev pub after_packet : ProfileView → ℕ → PacketView → Step Status
after_packet p n (whole body) = TellsBody p n body
after_packet p n none = Tells (packet_line (Ended 0)) PeerFault
after_packet p n (wrong cause) = Tells (packet_line cause) PeerFault
after_packet p n broken = link_lost

-- ---- the call, of this number and these bytes

abbrev pub after_sending : ProfileView → ℕ → Bool → Step Status
after_sending p n true = Then (TakesPacket slots.Link) (after_packet p n)
after_sending p n false = link_lost

abbrev pub after_connect : ProfileView → ℕ → List ℕ → Bool → Step Status
after_connect p n b true = Then (Writes outs.Link (packet b)) (after_sending p n)
after_connect p n b false = link_lost

-- a link is made to the address, the call's packet is sent, and one packet is taken
abbrev pub CallsOver : ProfileView → List ℕ → ℕ → List ℕ → Step Status
CallsOver p address n b = Then (Calls (connected address)) (after_connect p n b)

-- the bytes are no call, or too long a one, and no link is made; or they are sent
pub data OfCall (p : ProfileView) (address b : List ℕ) (t : List Event) (status : Status) : Type 0 where
  no_call : (fault : WireFault) → WireRefused p calls b fault → Prints (refused (wire_line (codes "input") fault)) t status → OfCall p address b t status
  long_call : (c : Numbered) → MeansCall p c b → MAX_FRAME_BYTES < length b → Prints (refused (long_call_line (length b))) t status → OfCall p address b t status
  calls_it : (c : Numbered) → MeansCall p c b → length b ≤ MAX_FRAME_BYTES → CallsOver p address c.number b t status → OfCall p address b t status

-- ---- the command

-- the text is the JSON of no call's value; or of one, whose spelling tells
pub data OfText (p : ProfileView) (address text : List ℕ) (t : List Event) (status : Status) : Type 0 where
  no_json : (cause : JsonCause) → JsonRefused p.schema call text cause → Prints (refused (json_line cause)) t status → OfText p address text t status
  json_of : (x : ValueView) (b : List ℕ) → IsJsonOf p.schema call text x → Spells p.schema call x b → AreBytes b → OfCall p address b t status → OfText p address text t status

abbrev pub after_reading : ProfileView → List ℕ → Option (List ℕ) → Step Status
after_reading p address (Some text) = OfText p address text
after_reading p address None = Unread

-- the input's file is read
abbrev pub OfInputFile : List ℕ → List ℕ → ProfileView → Step Status
OfInputFile address input p = Then (ReadsFile slots.Input input JSON_BYTES) (after_reading p address)

-- `post SCHEMA ADDRESS INPUT`
abbrev pub posts : List ℕ → List ℕ → List ℕ → Step Status
posts schema address input = OfCommand (OfProfile (OfInputFile address input)) schema
