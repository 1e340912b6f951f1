-- Each file of bytes is told to its end, or to what is refused there.
use Rattle.std.proofs.Common.{◌≡◌, ◌⊎◌, inl, inr, ℕ, zero, suc, ◌+◌, ◌<◌, ◌≤◌, List, [], ◌∷◌, ◌++◌, append_assoc, append-nil, length, length-append, refl, sym, ap, ◌∙◌, subst, arith}
use Rattle.std.proofs.lemmas.Bool.{cases_lt}
use Rattle.tl_numbers.specs.Bytes.{AreBytes}
use Rattle.tl_numbers.specs.Numbers.{word}
use Rattle.tl_base.specs.Packets.{packet, IsPacketLength}
use Rattle.tl_schema.specs.Schemas.{Declared}
use Rattle.tl_schema.specs.CheckedPrograms.{IsSchema}
use Rattle.tl_calls.specs.Events.{Logged, Log}
use Rattle.outside.specs.Answer.{Answer, done, refused_after}
use Rattle.schema_files.specs.Lines.{input_line}
use Rattle.call_commands.specs.CallReports.{Began, one_more, HasPacket, Tells, PacketRefused, bad_length, ended, too_long, content, Next, nothing, a_line}
use Rattle.call_commands.specs.CallReports as reports
use Rattle.call_commands.specs.Calls.{OfPackets, told, no_packet}
use Rattle.call_commands.specs.declared.limits.TheConstants.{MAX_PACKET_END}
use Rattle.call_commands.proofs.Framed.{begins_packet}
use Rattle.call_commands.proofs.Framed as framed
use Rattle.call_commands.proofs.OnePacket.{comes}
use Rattle.call_commands.proofs.OnePacket as packets
use Rattle.call_commands.proofs.OneFile.{content_bytes, left_bytes, one_file, open_so}

-- a packet's content is empty or has a word
has_word : (n : ℕ) → IsPacketLength n → (n ≡ 0) ⊎ (4 ≤ n)
has_word n fits = elim (cases_lt 3 n) [
  | inl some ↦ inr some
  | inr few ↦ inl (omega (arith, fits.0, few))
]

no_length : (held : List ℕ) → length held ≡ 0 → held ≡ []
no_length [] none = refl
no_length (b ∷ held) none = absurd (omega (arith, none))

pub empty_or_word : (held : List ℕ) → IsPacketLength (length held) → (held ≡ []) ⊎ (4 ≤ length held)
empty_or_word held fits = elim (has_word (length held) fits) [ inl none ↦ inl (no_length held none) | inr some ↦ inr some ]

shorter : (left held rest : List ℕ) → left ≡ packet held ++ rest → length rest < length left
shorter left held rest is = omega (arith, ap length is, length-append (packet held) rest, length-append (word (length held)) held)

module _ (schema : Declared) (good : IsSchema schema) (file : List ℕ) (are : AreBytes file) where
  -- an answer of the file, whose lines begin with these
  pub record Answered (lines : List ℕ) : Type 0 where
    pub answer : Answer
    pub is : OfPackets schema file answer
    pub more : List ℕ
    pub output : answer.output ≡ lines ++ more

  -- what follows is refused
  refusal : (past : Log) (at : ℕ) (left lines : List ℕ) → Began schema file past at left lines → (place : ℕ) (why : List ℕ) → PacketRefused schema past at left place why → Answered lines
  refusal past at left lines began place why refused = record {
    answer = refused_after lines (input_line place why);
    is = no_packet past at left lines place why began refused refl;
    more = [];
    output = sym (append-nil lines);
  }

  abbrev Further : Log → ℕ → List ℕ → List ℕ → Type 0
  Further past at left lines = (held rest : List ℕ) (e : Logged) (line : List ℕ) → HasPacket at left held rest → Tells schema past held e line → Answered (lines ++ line)

  -- the lines before stand in those of a longer answer
  begins_so : (lines line : List ℕ) → Answered (lines ++ line) → Answered lines
  begins_so lines line a = record { answer = a.answer; is = a.is; more = line ++ a.more; output = a.output ∙ append_assoc lines line a.more }

  by_packet : (past : Log) (at : ℕ) (left lines : List ℕ) → Began schema file past at left lines → (held rest : List ℕ) → IsPacketLength (length held) → left ≡ packet held ++ rest → Further past at left lines → Answered lines
  by_packet past at left lines began held rest fits is further = elim (cases_lt MAX_PACKET_END (at + length (packet held))) [
    | inl far ↦ refusal past at left lines began at _ (too_long held rest fits is far refl refl)
    | inr within ↦
        let here : HasPacket at left held rest = record { length_fits = fits; there = is; within = within } in
        elim (comes schema good past (open_so schema good file are past at left lines began) held (content_bytes at left held rest here (left_bytes schema good file are past at left lines began)) at (empty_or_word held fits)) [
          | packets.told e line tells ↦ begins_so lines line (further held rest e line here tells)
          | packets.not_told place why refused ↦ refusal past at left lines began place why (content held rest here refused)
        ]
  ]

  ended_or : (past : Log) (at : ℕ) (left lines : List ℕ) → Began schema file past at left lines → Further past at left lines → Answered lines
  ended_or past at left lines began further = elim (begins_packet left (left_bytes schema good file are past at left lines began)) [
    | framed.none empty ↦ record {
      answer = done lines;
      is = told past at lines (subst (λ (z : List ℕ). Began schema file past at z lines) empty began) refl;
      more = [];
      output = sym (append-nil lines);
    }
    | framed.bad n rest few begins bad ↦ refusal past at left lines began at _ (bad_length n rest few begins bad refl refl)
    | framed.cut some short ↦ refusal past at left lines began at _ (ended some short refl refl)
    | framed.packed held rest fits is ↦ by_packet past at left lines began held rest fits is further
  ]

  -- by the most bytes that may be left
  answered_by : (k : ℕ) (past : Log) (at : ℕ) (left lines : List ℕ) → Began schema file past at left lines → length left ≤ k → Answered lines
  answered_by zero past at left lines began most = ended_or past at left lines began (λ held rest e line here tells. absurd (let less = shorter left held rest here.there in omega (arith, most, less)))
  answered_by (suc k) past at left lines began most = ended_or past at left lines began (λ held rest e line here tells.
      let less = shorter left held rest here.there in
      answered_by k (e ∷ past) (at + length (packet held)) rest (lines ++ line) (one_more past at left lines held rest e line began here tells) (omega (arith, most, less)))

  -- Where some packets were told, the file has an answer that begins with their lines; and likewise with what is written next.
  pub answered_after : (past : Log) (at : ℕ) (left lines : List ℕ) → Began schema file past at left lines → Answered lines
  answered_after past at left lines began = answered_by (length left) past at left lines began (omega arith)

  pub answered_next : (past : Log) (at : ℕ) (left lines next : List ℕ) → Began schema file past at left lines → Next schema past at left next → Answered (lines ++ next)
  answered_next past at left lines next began nothing = subst Answered (sym (append-nil lines)) (answered_after past at left lines began)
  answered_next past at left lines next began (a_line held rest e line here tells) = answered_after (e ∷ past) (at + length (packet held)) rest (lines ++ line) (one_more past at left lines held rest e line began here tells)

  -- the file's answer begins with what is written
  pub output_after : (a : Answer) → OfPackets schema file a → (past : Log) (at : ℕ) (left lines next : List ℕ) → Began schema file past at left lines → Next schema past at left next → (more : List ℕ) × (a.output ≡ (lines ++ next) ++ more)
  output_after a is past at left lines next began comes =
      let b = answered_next past at left lines next began comes in (b.more, ap (λ (x : Answer). x.output) (one_file schema good file are a b.answer is b.is) ∙ b.output)

  pub each_file : (a : Answer) × OfPackets schema file a
  each_file = let a = answered_after [] 0 file [] reports.none in (a.answer, a.is)
