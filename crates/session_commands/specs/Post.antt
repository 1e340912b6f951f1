-- What `post` answers: the reply to the call that the input's JSON is, or where and why schema, profile or input is refused, or what the other end of the
-- link does wrong. This project's own.
use Rattle.std.specs.Prelude.{◌≡◌, ℕ, ◌<◌, ◌≤◌, ◌^◌, List, [], ◌++◌, length, codes}
use Rattle.tl_numbers.specs.Bytes.{AreBytes}
use Rattle.tl_base.specs.Contents.{Files, HoldBytes}
use Rattle.tl_base.specs.Outside.{View, HasFile, IsFile}
use Rattle.tl_base.specs.Packets.{IsPacketLength, packet}
use Rattle.tl_base.specs.declared.packet.PacketCause.{PacketCause}
use Rattle.tl_base.specs.declared.packet.PacketCause.TheVariants as packet_fault
use Rattle.tl_schema.specs.Types.{call}
use Rattle.tl_types.specs.Values.{ValueView}
use Rattle.tl_types.specs.Spelling.{Spells}
use Rattle.box_events.specs.declared.limits.TheConstants.{MAX_FRAME_BYTES}
use Rattle.box_events.specs.declared.replies.Frame.{Frame}
use Rattle.box_events.specs.declared.replies.Frame.TheVariants.{Push, Reply}
use Rattle.box_events.specs.declared.requests.Numbered.{Numbered}
use Rattle.wire_profile.specs.declared.wire_fault.WireFault.{WireFault}
use Rattle.wire_profile.specs.Indexes.{ProfileView, cell_shape}
use Rattle.box_wire.specs.Kinds.{calls, frames}
use Rattle.box_wire.specs.Framing.{SpellsWhole, WireRefused}
use Rattle.update_sessions.specs.Packed.{MeansCall, MeansFrame}
use Rattle.update_sessions.specs.Heard.{NoFrame}
use Rattle.outside.specs.Answer.{Answer, refused}
use Rattle.outside.specs.Jobs.{Job}
use Rattle.outside.specs.Kept.{LeavesInput}
use Rattle.outside.specs.declared.status.Status.TheVariants.{Done, PeerFault}
use Rattle.schema_files.specs.Causes.{JsonCause}
use Rattle.schema_files.specs.JsonInput.{IsJsonOf, JsonRefused}
use Rattle.schema_files.specs.Lines.{json_line, line_text}
use Rattle.fault_lines.specs.Messages.{wire_line}
use Rattle.fault_lines.specs.Profiled.{OfProfileFile, HasProfile}
use Rattle.session_commands.specs.Linked.{over_link, linking_job, next_link, KeepsFiles, LeavesLinks}
use Rattle.fault_lines.specs.Packets.{packet_line}
use Rattle.session_commands.specs.Lines.{wrong_reply_line, long_call_line}

-- ---- what comes back

-- a line for Output; or the line that says what the other end did wrong
pub data Outcome : Type 0 where
  shows : (line : List ℕ) → Outcome
  peer : (line : List ℕ) → Outcome

-- a frame that is the reply to the call of this number
abbrev pub IsReplyTo : ℕ → Frame → Type 0
IsReplyTo n (Push p) = ⊥
IsReplyTo n (Reply m r) = m ≡ n

-- What is made of a packet's bytes: they are no frame; a frame, but no reply to the call; or its reply, whose value is shown as it came.
pub data OfBody (p : ProfileView) (n : ℕ) (body : List ℕ) (o : Outcome) : Type 0 where
  no_frame : (fault : WireFault) → WireRefused p frames body fault → o ≡ peer (wire_line (codes "peer") fault) → OfBody p n body o
  another : (f : Frame) → MeansFrame p f body → (IsReplyTo n f → ⊥) → o ≡ peer wrong_reply_line → OfBody p n body o
  reply : (f : Frame) (v : ValueView) → MeansFrame p f body → IsReplyTo n f → SpellsWhole p frames v body → o ≡ shows (line_text p.schema.decls (cell_shape p frames.cell) v) → OfBody p n body o

-- a length that no packet has is one of four bytes
abbrev pub IsWordLong : PacketCause → Type 0
IsWordLong (packet_fault.BadLength n) = n < 2 ^ 32
IsWordLong fault = Unit {0}

-- what is made of what the link gives: its first packet tells, where it begins with one
pub data OfLink (p : ProfileView) (n : ℕ) (bytes : List ℕ) (o : Outcome) : Type 0 where
  no_packet : (fault : PacketCause) (line : List ℕ) → NoFrame bytes fault → IsWordLong fault → packet_line fault ≡ line → o ≡ peer line → OfLink p n bytes o
  packet_of : (body rest : List ℕ) → IsPacketLength (length body) → bytes ≡ packet body ++ rest → OfBody p n body o → OfLink p n bytes o

-- ---- the call

abbrev pub answer_of : List ℕ → List ℕ → Outcome → Answer
answer_of address sent (shows line) = over_link address sent Done line []
answer_of address sent (peer line) = over_link address sent PeerFault [] line

-- a call that was sent as these bytes, over a link that gives these
abbrev pub OfSent : ProfileView → ℕ → List ℕ → List ℕ → List ℕ → Answer → Type 0
OfSent p n address b given a = (o : Outcome) × OfLink p n given o × (a ≡ answer_of address (packet b) o)

-- the bytes are refused as a call; or they are one that is too long; or it is sent
pub data OfCall (p : ProfileView) (address b given : List ℕ) (a : Answer) : Type 0 where
  no_call : (fault : WireFault) → WireRefused p calls b fault → a ≡ refused (wire_line (codes "input") fault) → OfCall p address b given a
  long_call : (c : Numbered) → MeansCall p c b → MAX_FRAME_BYTES < length b → a ≡ refused (long_call_line (length b)) → OfCall p address b given a
  sent : (c : Numbered) → MeansCall p c b → length b ≤ MAX_FRAME_BYTES → OfSent p c.number address b given a → OfCall p address b given a

-- the input is the JSON of no call's value; or of one, whose spelling tells
pub data OfJson (p : ProfileView) (address bytes given : List ℕ) (a : Answer) : Type 0 where
  no_json : (cause : JsonCause) → JsonRefused p.schema call bytes cause → a ≡ refused (json_line cause) → OfJson p address bytes given a
  json_of : (x : ValueView) (b : List ℕ) → IsJsonOf p.schema call bytes x → Spells p.schema call x b → AreBytes b → OfCall p address b given a → OfJson p address bytes given a

-- the input's file tells
abbrev pub OfInput : List ℕ → List ℕ → Files → List ℕ → ProfileView → Answer → Type 0
OfInput address input files given p a = (bytes : List ℕ) × HasFile files input bytes × OfJson p address bytes given a

-- post's answer, over a link that gives these bytes
abbrev pub PostAnswer : Files → List ℕ → List ℕ → List ℕ → List ℕ → Answer → Type 0
PostAnswer files given schema address input a = OfProfileFile (OfInput address input files given) files schema a

-- the work comes to the link: the schema is a profile, and some file has the input's name
pub record ReachesLink (files : Files) (schema input : List ℕ) : Type 0 where
  pub profile : HasProfile files schema
  pub bytes : List ℕ
  pub there : HasFile files input bytes

-- what `post` leaves: files, State and moments; Input, where the schema is no profile; and links, where the work doesn't come to them
pub record PostKeeps (schema name : List ℕ) (v w : View) : Type 0 where
  pub rest : KeepsFiles v w
  pub state : (w.written.state ≡ v.written.state) × (w.state_name ≡ v.state_name)
  pub input : LeavesInput (HasProfile v.files schema) v w
  pub links : LeavesLinks (ReachesLink v.files schema name) v w

-- `post SCHEMA ADDRESS INPUT`
abbrev pub post_job : List ℕ → List ℕ → List ℕ → Job
post_job schema address input = linking_job (λ v a. PostAnswer v.files (next_link v) schema address input a) (PostKeeps schema input)

-- ---- laws

-- over a link that gives bytes there is one answer at most
abbrev pub PostHasOneAnswer : Type 0
PostHasOneAnswer =
    (files : Files) (given : List ℕ) → AreBytes given → (schema address input : List ℕ) (a c : Answer) → PostAnswer files given schema address input a → PostAnswer files given schema address input c → a ≡ c

-- where files hold bytes, and those of schema and input are there, there is one over a link that gives bytes
abbrev pub PostsAreAnswered : Type 0
PostsAreAnswered =
    (files : Files) → HoldBytes files → (given : List ℕ) → AreBytes given → (schema address input : List ℕ) → IsFile files schema → IsFile files input → (a : Answer) × PostAnswer files given schema address input a
