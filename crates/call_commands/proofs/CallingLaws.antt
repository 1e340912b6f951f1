-- Laws of `calls`.
use Rattle.std.proofs.Common.{◌≡◌, ℕ, List, [], ◌∷◌, ◌++◌, Bool, true, false, codes, refl, sym, ap, ◌∙◌, subst, inl, inr}
use Rattle.tl_base.specs.declared.counts.Kind.TheVariants as kinds
use Rattle.tl_base.specs.declared.host.Out.TheVariants.{Output}
use Rattle.tl_base.specs.declared.host.Slot.TheVariants.{Schema, Input}
use Rattle.tl_schema.specs.Schemas.{Declared}
use Rattle.outside.specs.Answer.{refused, write_fault_line}
use Rattle.outside.specs.declared.status.Status.{Status}
use Rattle.outside.specs.declared.status.Status.TheVariants as status
use Rattle.outside.specs.Events.{Event, opened}
use Rattle.outside.specs.Laws.{Happened, Keeps, IsFailure, Explains, HasCause}
use Rattle.outside.specs.Packets.{PacketView, TakesPacket}
use Rattle.outside.specs.Packets as taken
use Rattle.outside.specs.Pieces.{Writes}
use Rattle.outside.specs.Pieces as piece
use Rattle.outside.specs.Begun.{to_output}
use Rattle.outside.specs.Runs.{RunsIn}
use Rattle.outside.specs.Steps.{Step, Turn, again, leave, Calls, Ends}
use Rattle.outside.proofs.Causing.{cause_print, cause_run, cause_tell, cause_then, explains_first, explains_last, keeps_call, keeps_end, keeps_loop, keeps_print, keeps_tell, keeps_then, keeps_write, told_status, unwritten}
use Rattle.outside.proofs.TakenPackets.{broken_packet, keeps_packet}
use Rattle.schema_files.specs.Lines.{input_line}
use Rattle.codec_rooms.specs.Laws.{IsOf}
use Rattle.codec_rooms.proofs.FileLaws.{Touches, touches}
use Rattle.codec_rooms.proofs.TypedLaws.{cause_of_file, keeps_named}
use Rattle.call_commands.specs.CallsWork.{SoFar, so_far, ends_by, Last, TellsRefusal, after_line, OfPacket, too_long, no_packet, told, after_packet, TellsNext, TellsPackets, after_opening, OfInput, tells_calls}
use Rattle.call_commands.specs.Commands.{calls}

-- ---- what it does

module _ (schema input : List ℕ) where
  abbrev P : Event → Type 0
  P = IsOf (calls schema input).reads

  keeps_last : (S : Step Status) → Keeps P S → Keeps P (Last S)
  keeps_last S first = keeps_then P S ends_by first (λ s. keeps_end P (leave s))

  keeps_refusal : (place : ℕ) (why : List ℕ) → Keeps P (Last (TellsRefusal place why))
  keeps_refusal place why = keeps_last (TellsRefusal place why) (keeps_print P (λ _. tt) tt (λ _. tt) tt (refused (input_line place why)))

  keeps_line : (next : SoFar) (ok : Bool) → Keeps P (after_line next ok)
  keeps_line next true = keeps_end P (again next)
  keeps_line next false = keeps_last _ (keeps_tell P (λ _. tt) tt _ _)

  module _ (D : Declared) where
    keeps_whole : (s : SoFar) (content : List ℕ) → Keeps P (OfPacket D s content)
    keeps_whole s content t x (too_long far h) = keeps_refusal s.at (codes "TooLong") t x h
    keeps_whole s content t x (no_packet within place why r h) = keeps_refusal place why t x h
    keeps_whole s content t x (told within e line tells h) = keeps_then P (Writes Output line) (after_line _) (keeps_write P Output line (λ _. tt) tt) (keeps_line _) t x h

    keeps_after : (s : SoFar) (v : PacketView) → Keeps P (after_packet D s v)
    keeps_after s (taken.whole content) = keeps_whole s content
    keeps_after s taken.none = keeps_last _ (keeps_end P status.Done)
    keeps_after s (taken.wrong cause) = keeps_refusal s.at _
    keeps_after s taken.broken = keeps_last _ (keeps_tell P (λ _. tt) tt _ _)

    keeps_next : (s : SoFar) → Keeps P (TellsNext D s)
    keeps_next s = keeps_then P (TakesPacket Input) (after_packet D s) (keeps_packet Input P (λ _. (input, inr (inl (refl, refl)))) (input, inr (inl (refl, refl))) (input, inr (inl (refl, refl)))) (keeps_after s)

    keeps_opened : (ok : Bool) → Keeps P (after_opening D ok)
    keeps_opened true = keeps_loop P (TellsNext D) keeps_next (so_far [] 0)
    keeps_opened false = keeps_tell P (λ _. tt) tt _ _

    keeps_input : Keeps P (OfInput input D)
    keeps_input = keeps_then P (Calls (opened Input input)) (after_opening D) (keeps_call P (opened Input input) (λ _. inr (inl (refl, refl)))) keeps_opened

  keeps_calls : Keeps P (tells_calls schema input)
  keeps_calls = keeps_named (calls schema input).reads Schema schema (inl (refl, refl)) (codes "schema") (OfInput input) keeps_input

pub calls_touches : (schema input : List ℕ) → Touches (calls schema input)
calls_touches schema input = touches (calls schema input) (keeps_calls schema input)

-- ---- why it fails

abbrev left_of : Status → Turn SoFar Status → Status
left_of r (again s) = r
left_of r (leave a) = a

left_is : (a b : Status) → ◌≡◌ {A = Turn SoFar Status} (leave a) (leave b) → a ≡ b
left_is a b is = ap (left_of b) is

-- a step that leaves by a fault's status has such a failure, here or before it
abbrev Causes : List Event → Step (Turn SoFar Status) → Type 0
Causes t S = (u : List Event) (s : Status) → S u (leave s) → Explains s (t ++ u)

-- the run ends by what has its cause here
cause_last : (S : Step Status) → HasCause S → Causes [] (Last S)
cause_last S cause u s h =
    let is : s ≡ h.between = left_is s h.between h.goes.1 in
    subst (Explains s) (sym h.splits) (explains_first s h.first h.rest (subst (λ (x : Status). Explains x h.first) (sym is) (cause h.first h.between h.does)))

-- the run ends by what had its cause before
cause_told : (line : List ℕ) (fault : Status) (t : List Event) → Explains fault t → Causes t (Last (piece.Tells line fault))
cause_told line fault t has u s h =
    let is : s ≡ fault = left_is s h.between h.goes.1 ∙ told_status line fault h.first h.between h.does in
    explains_first s t u (subst (λ (x : Status). Explains x t) (sym is) has)

cause_refusal : (place : ℕ) (why : List ℕ) → Causes [] (Last (TellsRefusal place why))
cause_refusal place why = cause_last (TellsRefusal place why) (cause_print (refused (input_line place why)) tt)

cause_line : (line : List ℕ) (next : SoFar) (ok : Bool) (t : List Event) → Writes Output line t ok → Causes t (after_line next ok)
cause_line line next true t w = λ u s h. absurd (let no : ◌≡◌ {A = Turn SoFar Status} (leave s) (again next) = h.1 in cc)
cause_line line next false t w = cause_told write_fault_line status.WriteFault t (unwritten Output line t w)

cause_whole : (D : Declared) (s : SoFar) (content : List ℕ) → Causes [] (OfPacket D s content)
cause_whole D s content u x (too_long far h) = cause_refusal s.at (codes "TooLong") u x h
cause_whole D s content u x (no_packet within place why r h) = cause_refusal place why u x h
cause_whole D s content u x (told within e line tells h) = subst (Explains x) (sym h.splits) (cause_line line _ h.between h.first h.does h.rest x h.goes)

cause_done : HasCause (Ends status.Done)
cause_done t s h = subst (λ (x : Status). Explains x t) (sym h.1) tt

module _ (D : Declared) where
  cause_after : (s : SoFar) (v : PacketView) (t : List Event) → TakesPacket Input t v → Causes t (after_packet D s v)
  cause_after s (taken.whole content) t takes = λ u x h. explains_last x t u (cause_whole D s content u x h)
  cause_after s taken.none t takes = λ u x h. explains_last x t u (cause_last (Ends status.Done) cause_done u x h)
  cause_after s (taken.wrong cause) t takes = λ u x h. explains_last x t u (cause_refusal s.at _ u x h)
  cause_after s taken.broken t takes = cause_told _ status.ReadFault t (broken_packet Input t takes)

  cause_next : (s : SoFar) (t : List Event) (x : Status) → TellsNext D s t (leave x) → Explains x t
  cause_next s t x h = subst (Explains x) (sym h.splits) (cause_after s h.between h.first h.does h.rest x h.goes)

  cause_packets : HasCause (TellsPackets D)
  cause_packets t x h = subst (Explains x) (sym h.splits) (explains_last x h.first h.rest (cause_next h.between h.rest x h.goes))

  cause_opened : (input : List ℕ) (ok : Bool) (t u : List Event) (x : Status) → t ≡ opened Input input ok ∷ [] → after_opening D ok u x → Explains x (t ++ u)
  cause_opened input true t u x is h = explains_last x t u (cause_packets u x h)
  cause_opened input false t u x is h = cause_tell _ status.ReadFault t u x (subst (Happened (IsFailure kinds.Reads)) (sym is) (inl refl)) h

  cause_input : (input : List ℕ) → HasCause (OfInput input D)
  cause_input input = cause_then (Calls (opened Input input)) (after_opening D) (cause_opened input)

pub calls_has_cause : (schema input : List ℕ) → HasCause (RunsIn to_output (tells_calls schema input))
calls_has_cause schema input = cause_run (tells_calls schema input) (cause_of_file Schema refl (codes "schema") (OfInput input) schema (λ D. cause_input D input))
