-- A decoder that is fed with an input. This project's own.
use Rattle.std.specs.Prelude.{◌≡◌, ℕ, [], ◌∷◌, Option, Some, None, Result, Ok, Err, codes}
use Rattle.tl_base.specs.declared.host.Slot.TheVariants.{Input}
use Rattle.tl_plan.specs.PlanLaws.{IsInstance}
use Rattle.tl_schema.specs.Formed.{IsFormed}
use Rattle.tl_schema.specs.Types.{Shape}
use Rattle.tl_schema.specs.Schemas.{Declared}
use Rattle.tl_types.specs.Values.{ValueView}
use Rattle.tl_decode.specs.Decoders.{DecoderView, HasValue}
use Rattle.tl_decode.specs.declared.whole.WholeFault.{WholeFault}
use Rattle.tl_decode.specs.declared.whole.WholeFault.TheVariants.{Refused, Trailing, ReadFault, Memory}
use Rattle.outside.specs.Answer.{Answer, refused}
use Rattle.outside.specs.declared.status.Status.{Status}
use Rattle.schema_files.specs.Lines.{cause_text, input_line}
use Rattle.outside.specs.Jobs.{Making, unread, no_memory}
use Rattle.outside.specs.Events.{HostState, took, ended, read_failed}
use Rattle.outside.specs.Grown.{Grew}
use Rattle.outside.specs.Printing.{Makes}
use Rattle.outside.specs.Begun.{Did}
use Rattle.codec_rooms.specs.Decode.{ReadsValue, Verdict, answer_of, printed}

-- the decoder has the value that the input is, or it is none
abbrev pub FeedsInput : Declared → Shape → HostState → HostState → DecoderView → Result (Unit {0}) WholeFault → Type 0
FeedsInput schema T p q d (Ok u) = (v : ValueView) × HasValue d v × Did (ReadsValue schema T) p q (Some (Ok v))
FeedsInput schema T p q d (Err (Refused place cause)) = Did (ReadsValue schema T) p q (Some (Err (Refused place cause)))
FeedsInput schema T p q d (Err (Trailing place)) = Did (ReadsValue schema T) p q (Some (Err (Trailing place)))
FeedsInput schema T p q d (Err ReadFault) = Did (ReadsValue schema T) p q (Some (Err ReadFault))
FeedsInput schema T p q d (Err Memory) = Did (ReadsValue schema T) p q None

-- likewise for each formed type that is at the root of its plan
abbrev pub FeedsEach : DecoderView → DecoderView → HostState → HostState → Result (Unit {0}) WholeFault → Type 0
FeedsEach old new p q r = (T : Shape) → IsInstance old.plan old.root T → IsFormed old.plan.schema T → FeedsInput old.plan.schema T p q new r

-- a read more after a value: the end, or a byte of which the place is told, or it failed
abbrev pub EndsInput : ℕ → HostState → HostState → Result (Unit {0}) WholeFault → Type 0
EndsInput place p q (Ok u) = Grew p (ended Input ∷ []) q
EndsInput place p q (Err (Trailing at)) = (at ≡ place) × (b : ℕ) × Grew p (took Input (b ∷ []) ∷ []) q
EndsInput place p q (Err (Refused at cause)) = ⊥
EndsInput place p q (Err ReadFault) = Grew p (read_failed Input ∷ []) q
EndsInput place p q (Err Memory) = ⊥

-- ---- what is made of a verdict

-- this answer, or that the input can't be read
abbrev pub MakesAs : Option Answer → Making → Type 0
MakesAs (Some a) m = Makes (λ b. b ≡ a) m
MakesAs None m = m ≡ unread

-- what is told of an input that is no value, or out of memory; no schema and no type matter to that
abbrev pub MakesFault : WholeFault → Making → Type 0
MakesFault (Refused place cause) m = Makes (λ b. b ≡ refused (input_line place (cause_text cause))) m
MakesFault (Trailing place) m = Makes (λ b. b ≡ refused (input_line place (codes "Trailing"))) m
MakesFault ReadFault m = m ≡ unread
MakesFault Memory m = m ≡ no_memory

-- the verdict's answer is printed; where there is no verdict, out of memory is handed on
abbrev pub PrintsVerdict : Declared → Shape → Option Verdict → HostState → HostState → Option Status → Type 0
PrintsVerdict schema T (Some r) p q answer = Did (printed (answer_of schema T r)) p q answer
PrintsVerdict schema T None p q answer = (answer ≡ None) × (q ≡ p)
