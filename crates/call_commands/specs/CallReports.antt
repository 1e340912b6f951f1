-- What `calls` writes of a file of packets, and where and why it refuses the file. This project's own.
use Rattle.std.specs.Prelude.{◌≡◌, ◌≢◌, ℕ, suc, ◌+◌, ◌<◌, ◌≤◌, ◌^◌, List, [], ◌∷◌, ◌++◌, length, Some, None, codes, decimal}
use Rattle.tl_numbers.specs.Numbers.{word}
use Rattle.tl_base.specs.Packets.{IsPacketLength, IsCutShort, packet}
use Rattle.tl_schema.specs.Types.{Shape}
use Rattle.tl_schema.specs.Types as type
use Rattle.tl_schema.specs.Schemas.{Declared}
use Rattle.tl_types.specs.Values.{ValueView, depth}
use Rattle.tl_types.specs.Spelling.{Spells}
use Rattle.tl_types.specs.Refusal.{Refused}
use Rattle.tl_types.specs.declared.cause.Cause.{Cause}
use Rattle.tl_types.specs.declared.value.TheConstants.{MAX_LEVELS}
use Rattle.schema_files.specs.Lines.{cause_text, line_text}
use Rattle.tl_calls.specs.Results.{result_type, HasResult, ResultHas}
use Rattle.tl_calls.specs.Events.{Logged, Log, sent, came, sent_in, open_in, IsOpen, IsAnswer}
use Rattle.tl_calls.specs.declared.calls.TheConstants.{MAX_OPEN}
use Rattle.tl_calls.specs.declared.fault.ResultCause.{ResultCause}
use Rattle.tl_calls.specs.declared.fault.ResultCause.TheVariants.{TypeTooDeep, EmptyElement}
use Rattle.call_commands.specs.declared.limits.TheConstants.{MAX_PACKET_END}

-- ---- lines

-- `call N JSON`
abbrev pub call_line : Declared → ℕ → ValueView → List ℕ
call_line schema n v = ((codes "call " ++ decimal n) ++ codes " ") ++ line_text schema.decls type.call v

-- `answer N JSON`
abbrev pub answer_line : Declared → ℕ → Shape → ValueView → List ℕ
answer_line schema n T v = ((codes "answer " ++ decimal n) ++ codes " ") ++ line_text schema.decls T v

-- `answer N stale`
abbrev pub stale_line : ℕ → List ℕ
stale_line n = (codes "answer " ++ decimal n) ++ codes " stale\n"

-- ---- values in packets

-- the bytes are all of the value's spelling
abbrev pub IsWhole : Declared → Shape → List ℕ → ValueView → Type 0
IsWhole schema T b v = Spells schema T v b × (depth v ≤ MAX_LEVELS)

-- The bytes are no value of the type: they are refused at this offset, or go on at it after a spelling.
pub data NoWhole (schema : Declared) (T : Shape) (b : List ℕ) (p : ℕ) (why : List ℕ) : Type 0 where
  refused : (cause : Cause) → Refused schema MAX_LEVELS T b p cause → why ≡ cause_text cause → NoWhole schema T b p why
  trailing : (v : ValueView) (x rest : List ℕ) → b ≡ x ++ rest → 0 < length rest → IsWhole schema T x v → p ≡ length x → why ≡ codes "Trailing" → NoWhole schema T b p why

-- ---- packets: the first word is 0 before a call, or the number of the call that is answered

-- After these events a packet of this content is this event, and gives what is said there; this is its line.
pub data Tells (schema : Declared) (past : Log) (content : List ℕ) (e : Logged) (line : List ℕ) : Type 0 where
  call : (v : ValueView) (b : List ℕ) → content ≡ word 0 ++ b → IsWhole schema type.call b v → length (open_in past) < MAX_OPEN → HasResult schema v
      → e ≡ (sent v, None) → line ≡ call_line schema (suc (length (sent_in past))) v → Tells schema past content e line
  answer : (n : ℕ) (b : List ℕ) (c v : ValueView) → n < 2 ^ 32 → content ≡ word n ++ b → IsOpen past n c → IsAnswer schema c b v
      → e ≡ (came n b, Some v) → line ≡ answer_line schema n (result_type schema.decls c) v → Tells schema past content e line
  stale : (n : ℕ) (b : List ℕ) → n < 2 ^ 32 → n ≢ 0 → content ≡ word n ++ b → ((c : ValueView) → IsOpen past n c → ⊥)
      → e ≡ (came n b, None) → line ≡ stale_line n → Tells schema past content e line

abbrev pub result_cause_name : ResultCause → List ℕ
result_cause_name TypeTooDeep = codes "TypeTooDeep"
result_cause_name EmptyElement = codes "EmptyElement"

-- After these events a packet of this content at this offset of the file is refused. What its bytes refuse stands at its own offset, after the
-- packet's length and its first word; all else at the packet's.
pub data ContentRefused (schema : Declared) (past : Log) (at : ℕ) (content : List ℕ) (place : ℕ) (why : List ℕ) : Type 0 where
  no_number : content ≡ [] → place ≡ at → why ≡ codes "NoNumber" → ContentRefused schema past at content place why
  no_call : (b : List ℕ) (p : ℕ) → content ≡ word 0 ++ b → NoWhole schema type.call b p why → place ≡ at + (8 + p) → ContentRefused schema past at content place why
  full : (v : ValueView) (b : List ℕ) → content ≡ word 0 ++ b → IsWhole schema type.call b v → MAX_OPEN ≤ length (open_in past)
      → place ≡ at → why ≡ codes "Full" → ContentRefused schema past at content place why
  no_result : (v : ValueView) (b : List ℕ) (cause : ResultCause) → content ≡ word 0 ++ b → IsWhole schema type.call b v → length (open_in past) < MAX_OPEN
      → ResultHas schema (result_type schema.decls v) cause → place ≡ at → why ≡ result_cause_name cause → ContentRefused schema past at content place why
  no_answer : (n : ℕ) (b : List ℕ) (c : ValueView) (p : ℕ) → n < 2 ^ 32 → content ≡ word n ++ b → IsOpen past n c → NoWhole schema (result_type schema.decls c) b p why
      → place ≡ at + (8 + p) → ContentRefused schema past at content place why

-- ---- files

-- What is left of the file at this offset begins with a packet of this content, which ends within the limit, and goes on with the rest.
pub record HasPacket (at : ℕ) (left content rest : List ℕ) : Type 0 where
  pub length_fits : IsPacketLength (length content)
  pub there : left ≡ packet content ++ rest
  pub within : at + length (packet content) ≤ MAX_PACKET_END

-- The file begins with packets that are these events, each after those before. At the offset after them it goes on with the bytes left. These are
-- their lines.
pub data Began (schema : Declared) (file : List ℕ) : Log → ℕ → List ℕ → List ℕ → Type 0 where
  none : Began schema file [] 0 file []
  one_more : (past : Log) (at : ℕ) (left lines content rest : List ℕ) (e : Logged) (line : List ℕ) → Began schema file past at left lines → HasPacket at left content rest → Tells schema past content e line
      → Began schema file (e ∷ past) (at + length (packet content)) rest (lines ++ line)

-- After these events what is left of the file at this offset begins with no packet that is an event. A packet's length comes first, then that it is
-- there whole, then the limit, then what it holds.
pub data PacketRefused (schema : Declared) (past : Log) (at : ℕ) (left : List ℕ) (place : ℕ) (why : List ℕ) : Type 0 where
  bad_length : (n : ℕ) (rest : List ℕ) → n < 2 ^ 32 → left ≡ word n ++ rest → ¬ IsPacketLength n → place ≡ at → why ≡ codes "BadLength " ++ decimal n → PacketRefused schema past at left place why
  ended : 0 < length left → IsCutShort left → place ≡ at → why ≡ codes "Ended " ++ decimal (length left) → PacketRefused schema past at left place why
  too_long : (content rest : List ℕ) → IsPacketLength (length content) → left ≡ packet content ++ rest → MAX_PACKET_END < at + length (packet content) → place ≡ at → why ≡ codes "TooLong" → PacketRefused schema past at left place why
  content : (content rest : List ℕ) → HasPacket at left content rest → ContentRefused schema past at content place why → PacketRefused schema past at left place why

-- what is written next after these events: a packet's line, or nothing
pub data Next (schema : Declared) (past : Log) (at : ℕ) (left : List ℕ) : List ℕ → Type 0 where
  nothing : Next schema past at left []
  a_line : (content rest : List ℕ) (e : Logged) (line : List ℕ) → HasPacket at left content rest → Tells schema past content e line → Next schema past at left line
