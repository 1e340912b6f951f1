-- `decode`: what is printed of a verdict, and that each of its parts can go on to its end.
use Rattle.std.proofs.Common.{◌≡◌, ℕ, List, [], ◌∷◌, Bool, true, false, Option, Some, None, Result, Ok, Err, refl, sym, subst}
use Rattle.std.specs.Prelude.{codes}
use Rattle.tl_base.specs.declared.host.Out.TheVariants.{Output}
use Rattle.tl_decode.specs.declared.whole.WholeFault.{WholeFault}
use Rattle.tl_decode.specs.declared.whole.WholeFault.TheVariants.{Refused, Trailing, ReadFault, Memory}
use Rattle.tl_types.specs.Seen.{view}
use Rattle.tl_types.specs.declared.value.Value.{Value}
use Rattle.schema_files.specs.Lines.{cause_text, input_line, line_text}
use Rattle.outside.specs.Pieces.{Writes}
use Rattle.tl_base.specs.declared.host.Slot.TheVariants.{Input}
use Rattle.tl_schema.specs.Schemas.{Declared}
use Rattle.tl_schema.specs.Types.{Shape}
use Rattle.outside.specs.Answer.{Answer, done, refused}
use Rattle.outside.specs.Jobs.{Making}
use Rattle.outside.specs.declared.status.Status.{Status}
use Rattle.outside.specs.Events.{Event, HostState, opened}
use Rattle.outside.specs.Printing.{Answers, Prints, PrintsMade, after_output}
use Rattle.outside.specs.Begun.{Did, WritesOnly}
use Rattle.outside.specs.Steps.{Begins, Then}
use Rattle.outside.proofs.Growing.{did_stop, did_then}
use Rattle.outside.proofs.Piecewise.{can_tell}
use Rattle.outside.proofs.Printed.{can_print, made_printed}
use Rattle.codec_rooms.proofs.InputRead.{keeps_value}
use Rattle.codec_rooms.specs.Decode.{Verdict, ReadsValue, answer_of, printed, after_reading, verdict, OfBytes}
use Rattle.codec_rooms.specs.inner.Feeding.{MakesAs, MakesFault, PrintsVerdict}
use Rattle.codec_rooms.specs.inner.Output.{Ends, Moves}
use Rattle.codec_rooms.specs.inner.Written.{writes_both, writes_fail}
use Rattle.codec_rooms.proofs.Typing.{did_as}

-- ---- a verdict is printed

pub can_printed : (o : Option Answer) → Begins (printed o) []
can_printed (Some a) = can_print a
can_printed None = can_tell _ _

of_answer : (a : Answer) (t : List Event) (status : Status) → Answers (λ b. b ≡ a) t status → Prints a t status
of_answer a t status (b, is, h) = subst (λ (x : Answer). Prints x t status) is h

as_printed : (o : Option Answer) (m : Making) (p q : HostState) (answer : Option Status) → MakesAs o m → PrintsMade m p q answer → Did (printed o) p q answer
as_printed (Some a) m p q answer makes h = did_as (Answers (λ b. b ≡ a)) (Prints a) p q answer (of_answer a) (made_printed (λ b. b ≡ a) m p q answer (a, refl) makes h)
as_printed None m p q answer makes h = subst (λ (x : Making). PrintsMade x p q answer) makes h

-- the line of a value, or what is told of an input that is none
pub value_printed : (schema : Declared) (T : Shape) (got : Result Value WholeFault) (v : Value) (p q : HostState) (answer : Option Status) → got ≡ Ok v
    → Did (Prints (done (line_text schema.decls T (view v)))) p q answer → PrintsVerdict schema T (verdict got) p q answer
value_printed schema T got v p q answer is h = subst (λ (r : Result Value WholeFault). PrintsVerdict schema T (verdict r) p q answer) (sym is) h

fault_as : (schema : Declared) (T : Shape) (fault : WholeFault) (m : Making) (p q : HostState) (answer : Option Status) → MakesFault fault m → PrintsMade m p q answer
    → PrintsVerdict schema T (verdict (Err fault)) p q answer
fault_as schema T (Refused place cause) m p q answer makes h = as_printed (Some (refused (input_line place (cause_text cause)))) m p q answer makes h
fault_as schema T (Trailing place) m p q answer makes h = as_printed (Some (refused (input_line place (codes "Trailing")))) m p q answer makes h
fault_as schema T ReadFault m p q answer makes h = as_printed None m p q answer makes h
fault_as schema T Memory m p q answer makes h = subst (λ (x : Making). PrintsMade x p q answer) makes h

pub fault_printed : (schema : Declared) (T : Shape) (got : Result Value WholeFault) (fault : WholeFault) (m : Making) (p q : HostState) (answer : Option Status) → got ≡ Err fault → MakesFault fault m
    → PrintsMade m p q answer → PrintsVerdict schema T (verdict got) p q answer
fault_printed schema T got fault m p q answer is makes h = subst (λ (r : Result Value WholeFault). PrintsVerdict schema T (verdict r) p q answer) (sym is) (fault_as schema T fault m p q answer makes h)

-- what was read is printed, or memory ran out in between
pub read_printed : (schema : Declared) (T : Shape) (o : Option Verdict) (p q r : HostState) (answer : Option Status) → Did (ReadsValue schema T) p q o → PrintsVerdict schema T o q r answer
    → Did (Then (ReadsValue schema T) (after_reading schema T)) p r answer
read_printed schema T (Some v) p q r answer read h = did_then (ReadsValue schema T) (after_reading schema T) p q r v answer (keeps_value schema T (WritesOnly []) (λ b. tt) tt tt) read h
read_printed schema T None p q r answer read out =
    subst (λ (x : Option Status). Did (Then (ReadsValue schema T) (after_reading schema T)) p r x) (sym out.0)
    (subst (λ (s : HostState). Did (Then (ReadsValue schema T) (after_reading schema T)) p s None) (sym out.1)
    (did_stop (ReadsValue schema T) (after_reading schema T) p q (λ v. can_printed (answer_of schema T v)) read))

-- ---- a line is written while it is made

-- what is put to it since nothing waited, and then the rest
pub line_written : (p q r : HostState) (f : Bool) (b line : List ℕ) (whole : Bool) → Moves false f p q [] b line → Ends f b q r whole → Did (Writes Output line) p r (Some whole)
line_written p q r true b line whole moves ends =
    subst (λ (x : Bool). Did (Writes Output line) p r (Some x)) (sym ends.0) (subst (λ (s : HostState). Did (Writes Output line) p s (Some false)) (sym ends.1) moves)
line_written p q r false b line true moves ends = subst (λ (l : List ℕ). Did (Writes Output l) p r (Some true)) (sym moves.2) (writes_both Output moves.0 b p q r moves.1 ends)
line_written p q r false b line false moves ends = subst (λ (l : List ℕ). Did (Writes Output l) p r (Some false)) (sym moves.2) (writes_fail Output moves.0 b p q r moves.1 ends)

pub line_done : {X : Type 0} (state : X → HostState) (start first next last given : X) (f h : Bool) (a b line : List ℕ) (whole : Bool) → f ≡ false → a ≡ [] → first ≡ start
    → Moves f h (state first) (state next) a b line → Ends h b (state next) (state last) whole → given ≡ last → Did (Writes Output line) (state start) (state given) (Some whole)
line_done state start first next last given f h a b line whole fine none is moves ends at =
    let from = subst (λ (x : Bool). Moves x h (state first) (state next) a b line) fine moves in
    let empty = subst (λ (l : List ℕ). Moves false h (state first) (state next) l b line) none from in
    let all = line_written (state first) (state next) (state last) h b line whole empty ends in
    subst (λ x. Did (Writes Output line) (state x) (state given) (Some whole)) is (subst (λ x. Did (Writes Output line) (state first) (state x) (Some whole)) (sym at) all)

pub can_after : (a : Answer) (ok : Bool) → Begins (after_output a ok) []
can_after a true = can_tell a.errors a.status
can_after a false = can_tell _ _

-- ---- the file may be missing

pub can_bytes : (input : List ℕ) (schema : Declared) (T : Shape) → Begins (OfBytes input schema T) []
can_bytes input schema T =
    let m = can_tell _ _ in
    record { rest = opened Input input false ∷ m.rest; answer = m.answer; whole = record { first = opened Input input false ∷ []; rest = m.rest; between = false; splits = refl; does = refl; goes = m.whole } }
