-- What `calls` does. This project's own.
use Rattle.std.specs.Prelude.{ℕ, ◌+◌, ◌<◌, ◌≤◌, List, [], ◌∷◌, ◌++◌, length, Bool, true, false, codes, decimal}
use Rattle.tl_base.specs.Packets.{packet}
use Rattle.tl_base.specs.declared.host.Out.TheVariants.{Output}
use Rattle.tl_base.specs.declared.host.Slot.TheVariants.{Input}
use Rattle.tl_schema.specs.Schemas.{Declared}
use Rattle.tl_calls.specs.Events.{Log, Logged}
use Rattle.outside.specs.Answer.{refused, write_fault_line}
use Rattle.outside.specs.declared.status.Status.{Status}
use Rattle.outside.specs.declared.status.Status.TheVariants.{Done, WriteFault}
use Rattle.outside.specs.Events.{Event, opened}
use Rattle.outside.specs.Packets.{PacketView, TakesPacket, packet_words}
use Rattle.outside.specs.Packets as taken
use Rattle.outside.specs.Pieces.{Writes}
use Rattle.outside.specs.Pieces as piece
use Rattle.outside.specs.Printing.{Prints, Unread}
use Rattle.outside.specs.Steps.{Step, Turn, again, leave, Calls, Ends, Loops, Then}
use Rattle.schema_files.specs.Lines.{input_line}
use Rattle.call_commands.specs.CallReports.{ContentRefused, Tells}
use Rattle.call_commands.specs.declared.limits.TheConstants.{MAX_PACKET_END}
use Rattle.codec_rooms.specs.Typed.{OfCommand, OfSchema}

-- ---- turns

-- how far a run is: the events of the packets before, the latest first, and the offset after them
pub record SoFar : Type 0 where
  pub past : Log
  pub at : ℕ

abbrev pub so_far : Log → ℕ → SoFar
so_far past at = record { past = past; at = at }

abbrev pub ends_by : Status → Step (Turn SoFar Status)
ends_by status = Ends (leave status)

-- the run ends by this
abbrev pub Last : Step Status → Step (Turn SoFar Status)
Last S = Then S ends_by

-- it is told why something is refused at an offset of the input
abbrev pub TellsRefusal : ℕ → List ℕ → Step Status
TellsRefusal place why = Prints (refused (input_line place why))

-- the next turn follows of a line that was written
abbrev pub after_line : SoFar → Bool → Step (Turn SoFar Status)
after_line next true = Ends (again next)
after_line next false = Last (piece.Tells write_fault_line WriteFault)

-- where a packet of this content ends
abbrev pub end_of : SoFar → List ℕ → ℕ
end_of s content = s.at + length (packet content)

-- The packet ends past the limit; or its content is refused; or it is told, its line is written, and then the next turn follows.
pub data OfPacket (schema : Declared) (s : SoFar) (content : List ℕ) (t : List Event) (turn : Turn SoFar Status) : Type 0 where
  too_long : MAX_PACKET_END < end_of s content → Last (TellsRefusal s.at (codes "TooLong")) t turn → OfPacket schema s content t turn
  no_packet : end_of s content ≤ MAX_PACKET_END → (place : ℕ) (why : List ℕ) → ContentRefused schema s.past s.at content place why → Last (TellsRefusal place why) t turn → OfPacket schema s content t turn
  told : end_of s content ≤ MAX_PACKET_END → (e : Logged) (line : List ℕ) → Tells schema s.past content e line → Then (Writes Output line) (after_line (so_far (e ∷ s.past) (end_of s content))) t turn
      → OfPacket schema s content t turn

-- what follows of a packet that was taken, or of why none was
abbrev pub after_packet : Declared → SoFar → PacketView → Step (Turn SoFar Status)
after_packet schema s (taken.whole content) = OfPacket schema s content
after_packet schema s taken.none = Last (Ends Done)
after_packet schema s (taken.wrong cause) = Last (TellsRefusal s.at (packet_words cause))
after_packet schema s taken.broken = Last Unread

-- a turn: a packet is taken of the input, and told
abbrev pub TellsNext : Declared → SoFar → Step (Turn SoFar Status)
TellsNext schema s = Then (TakesPacket Input) (after_packet schema s)

-- ---- the command

-- packets are told until the input ends, or one is refused
abbrev pub TellsPackets : Declared → Step Status
TellsPackets schema = Loops (TellsNext schema) (so_far [] 0)

abbrev pub after_opening : Declared → Bool → Step Status
after_opening schema true = TellsPackets schema
after_opening schema false = Unread

-- what follows of a schema: the input's file is opened, and its packets are told
abbrev pub OfInput : List ℕ → OfSchema
OfInput input schema = Then (Calls (opened Input input)) (after_opening schema)

-- `calls SCHEMA INPUT`: the schema's file is read, then the input's is opened, and its packets are told one by one
abbrev pub tells_calls : List ℕ → List ℕ → Step Status
tells_calls schema input = OfCommand (OfInput input) schema
