-- Which events a step can have, and what a fault's status comes of: by the parts that it is made of.
use Rattle.std.proofs.Common.{◌≡◌, ℕ, ◌+◌, inl, inr, List, [], ◌∷◌, ◌++◌, map, Bool, true, false, Option, Some, None, refl, sym, subst}
use Rattle.tl_base.specs.Kinds.{slot_kind, out_kind}
use Rattle.tl_base.specs.declared.counts.Kind.TheVariants as kinds
use Rattle.tl_base.specs.declared.host.Slot.{Slot}
use Rattle.tl_base.specs.declared.host.Out.{Out}
use Rattle.tl_base.specs.declared.host.Out.TheVariants as outs
use Rattle.outside.specs.Answer.{Answer, write_fault_line}
use Rattle.outside.specs.declared.status.Status.{Status}
use Rattle.outside.specs.declared.status.Status.TheVariants.{Done, Refused, Usage, ReadFault, WriteFault, Memory, LinkFault, PeerFault}
use Rattle.outside.specs.Events.{Event, opened, took, ended, read_failed, put, write_failed}
use Rattle.outside.specs.Laws.{Happened, Throughout, Keeps, IsFailure, IsFromLink, Explains, HasCause}
use Rattle.outside.specs.Pieces.{InPieces, TakenView, full, short, broken, Takes, Writes, Tells, ReadsFile, after_open, text_of}
use Rattle.outside.specs.Printing.{Prints, after_output, Answers}
use Rattle.outside.specs.Runs.{RunsIn, done, out_of_memory}
use Rattle.outside.specs.Steps.{Step, StepOf, Ends, Calls, Then, Turn, again, leave, Reaches, here, turn, Loops}
use Rattle.outside.specs.Begun.{BeginsIn}

-- ---- what happened in a part happened

module _ {E : Type 0} (P : E → Type 0) where
  pub happened_first : (t u : List E) → Happened P t → Happened P (t ++ u)
  happened_first [] u h = absurd h
  happened_first (e ∷ t) u (inl first) = inl first
  happened_first (e ∷ t) u (inr later) = inr (happened_first t u later)

  pub happened_last : (t u : List E) → Happened P u → Happened P (t ++ u)
  happened_last [] u h = h
  happened_last (e ∷ t) u h = inr (happened_last t u h)

  pub throughout_both : (t u : List E) → Throughout P t → Throughout P u → Throughout P (t ++ u)
  throughout_both [] u a b = b
  throughout_both (e ∷ t) u a b = (a.0, throughout_both t u a.1 b)

  pub throughout_first : (t u : List E) → Throughout P (t ++ u) → Throughout P t
  throughout_first [] u a = tt
  throughout_first (e ∷ t) u a = (a.0, throughout_first t u a.1)

  -- ---- what a step does, by its parts

  pub keeps_end : {A : Type 0} (x : A) → Keeps P (Ends x)
  keeps_end x t a h = subst (Throughout P) (sym h.0) tt

  pub keeps_call : {A : Type 0} (event : A → E) → ((a : A) → P (event a)) → Keeps P (Calls event)
  keeps_call event each t a h = subst (Throughout P) (sym h) (each a, tt)

  pub keeps_then : {A B : Type 0} (S : StepOf E A) (W : A → StepOf E B) → Keeps P S → ((a : A) → Keeps P (W a)) → Keeps P (Then S W)
  keeps_then S W first rest t b h = subst (Throughout P) (sym h.splits) (throughout_both h.first h.rest (first h.first h.between h.does) (rest h.between h.rest b h.goes))

  -- turns of a loop, and the one by which it is left
  keeps_turns : {S A : Type 0} (body : S → StepOf E (Turn S A)) → ((s : S) → Keeps P (body s)) → (start : S) (t : List E) (s : S) → Reaches body start t s → Throughout P t
  keeps_turns body each start t s (here _ _ none is) = subst (Throughout P) (sym none) tt
  keeps_turns body each start t s (turn _ first rest between _ splits before this) = subst (Throughout P) (sym splits) (throughout_both first rest (keeps_turns body each start first between before) (each between rest (again s) this))

  pub keeps_loop : {S A : Type 0} (body : S → StepOf E (Turn S A)) → ((s : S) → Keeps P (body s)) → (start : S) → Keeps P (Loops body start)
  keeps_loop body each start t a h = subst (Throughout P) (sym h.splits) (throughout_both h.first h.rest (keeps_turns body each start h.first h.between h.does) (each h.between h.rest (leave a) h.goes))

-- ---- what is taken and put

module _ (P : Event → Type 0) where
  throughout_pieces : (event : List ℕ → Event) → ((bytes : List ℕ) → P (event bytes)) → (pieces : List (List ℕ)) (last : List Event) → Throughout P last → Throughout P (map event pieces ++ last)
  throughout_pieces event each [] last end = end
  throughout_pieces event each (piece ∷ pieces) last end = (each piece, throughout_pieces event each pieces last end)

  pub keeps_pieces : (event : List ℕ → Event) → ((bytes : List ℕ) → P (event bytes)) → (bytes : List ℕ) (last t : List Event) → Throughout P last → InPieces event bytes last t → Throughout P t
  keeps_pieces event each bytes last t end q = subst (Throughout P) (sym q.events) (throughout_pieces event each q.pieces last end)

  pub keeps_take : (slot : Slot) (count : ℕ) → ((bytes : List ℕ) → P (took slot bytes)) → P (ended slot) → P (read_failed slot) → Keeps P (Takes slot count)
  keeps_take slot count each end fail t (full bytes) h = keeps_pieces (took slot) each bytes [] t tt h.0
  keeps_take slot count each end fail t (short bytes) h = keeps_pieces (took slot) each bytes (ended slot ∷ []) t (end, tt) h.0
  keeps_take slot count each end fail t broken h = keeps_pieces (took slot) each h.0 (read_failed slot ∷ []) t (fail, tt) h.1

  keeps_open : (slot : Slot) (limit : ℕ) → ((bytes : List ℕ) → P (took slot bytes)) → P (ended slot) → P (read_failed slot) → (ok : Bool) → Keeps P (after_open slot limit ok)
  keeps_open slot limit each end fail true = keeps_then P _ _ (keeps_take slot (limit + 1) each end fail) (λ taken. keeps_end P (text_of taken))
  keeps_open slot limit each end fail false = keeps_end P None

  pub keeps_file : (slot : Slot) (name : List ℕ) (limit : ℕ) → ((ok : Bool) → P (opened slot name ok)) → ((bytes : List ℕ) → P (took slot bytes)) → P (ended slot) → P (read_failed slot) → Keeps P (ReadsFile slot name limit)
  keeps_file slot name limit opens each end fail = keeps_then P _ _ (keeps_call P (opened slot name) opens) (keeps_open slot limit each end fail)

  pub keeps_write : (out : Out) (bytes : List ℕ) → ((piece : List ℕ) → P (put out piece)) → P (write_failed out) → Keeps P (Writes out bytes)
  keeps_write out bytes each fail t true h = keeps_pieces (put out) each bytes [] t tt h
  keeps_write out bytes each fail t false h = keeps_pieces (put out) each h.0 (write_failed out ∷ []) t (fail, tt) h.2

  module _ (errors : (piece : List ℕ) → P (put outs.Errors piece)) (unwritten : P (write_failed outs.Errors)) where
    pub keeps_tell : {A : Type 0} (line : List ℕ) (status : A) → Keeps P (Tells line status)
    keeps_tell line status = keeps_then P _ _ (keeps_write outs.Errors line errors unwritten) (λ _. keeps_end P status)

    module _ (output : (piece : List ℕ) → P (put outs.Output piece)) (lost : P (write_failed outs.Output)) where
      keeps_output : (a : Answer) (ok : Bool) → Keeps P (after_output a ok)
      keeps_output a true = keeps_tell a.errors a.status
      keeps_output a false = keeps_tell write_fault_line WriteFault

      pub keeps_print : (a : Answer) → Keeps P (Prints a)
      keeps_print a = keeps_then P _ _ (keeps_write outs.Output a.output output lost) (keeps_output a)

      pub keeps_answer : (Is : Answer → Type 0) → Keeps P (Answers Is)
      keeps_answer Is t status (a, is, h) = keeps_print a t status h

  -- likewise of the beginning of a step
  pub keeps_begun : {A : Type 0} {outs : List Out} (S : Step A) (t : List Event) → Keeps P S → BeginsIn outs S t → Throughout P t
  keeps_begun S t keeps m = throughout_first P t m.rest (keeps (t ++ m.rest) m.answer m.whole)

-- ---- why a fault's status came

pub explains_first : (status : Status) (t u : List Event) → Explains status t → Explains status (t ++ u)
explains_first ReadFault t u h = happened_first (IsFailure kinds.Reads) t u h
explains_first WriteFault t u h = happened_first (IsFailure kinds.Writes) t u h
explains_first LinkFault t u h = happened_first (IsFailure kinds.Links) t u h
explains_first Done t u h = tt
explains_first Refused t u h = tt
explains_first Usage t u h = h
explains_first Memory t u h = tt
explains_first PeerFault t u h = happened_first IsFromLink t u h

pub explains_last : (status : Status) (t u : List Event) → Explains status u → Explains status (t ++ u)
explains_last ReadFault t u h = happened_last (IsFailure kinds.Reads) t u h
explains_last WriteFault t u h = happened_last (IsFailure kinds.Writes) t u h
explains_last LinkFault t u h = happened_last (IsFailure kinds.Links) t u h
explains_last Done t u h = tt
explains_last Refused t u h = tt
explains_last Usage t u h = h
explains_last Memory t u h = tt
explains_last PeerFault t u h = happened_last IsFromLink t u h

-- a step, and what follows of its answer, which may come of what the step met
pub cause_then : {A : Type 0} (S : Step A) (W : A → Step Status) → ((a : A) (t u : List Event) (status : Status) → S t a → W a u status → Explains status (t ++ u)) → HasCause (Then S W)
cause_then S W each t status h = subst (Explains status) (sym h.splits) (each h.between h.first h.rest status h.does h.goes)

pub told_status : {A : Type 0} (line : List ℕ) (status : A) (t : List Event) (a : A) → Tells line status t a → a ≡ status
told_status line status t a h = h.goes.1

-- a status that needs no cause, or has it already
pub cause_tell : (line : List ℕ) (status : Status) (t u : List Event) (given : Status) → Explains status t → Tells line status u given → Explains given (t ++ u)
cause_tell line status t u given has h = explains_first given t u (subst (λ (s : Status). Explains s t) (sym (told_status line status u given h)) has)

pub unwritten : (out : Out) (bytes : List ℕ) (t : List Event) → Writes out bytes t false → Happened (IsFailure (out_kind out)) t
unwritten out bytes t h = subst (Happened (IsFailure (out_kind out))) (sym h.2.events) (happened_last (IsFailure (out_kind out)) (map (put out) h.2.pieces) (write_failed out ∷ []) (inl refl))

cause_output : (a : Answer) → Explains a.status [] → (ok : Bool) (t u : List Event) (status : Status) → Writes outs.Output a.output t ok → after_output a ok u status → Explains status (t ++ u)
cause_output a plain true t u status w h = explains_last status t u (cause_tell a.errors a.status [] u status plain h)
cause_output a plain false t u status w h = cause_tell write_fault_line WriteFault t u status (unwritten outs.Output a.output t w) h

pub cause_print : (a : Answer) → Explains a.status [] → HasCause (Prints a)
cause_print a plain = cause_then (Writes outs.Output a.output) (after_output a) (cause_output a plain)

pub cause_answer : (Is : Answer → Type 0) → ((a : Answer) → Is a → Explains a.status []) → HasCause (Answers Is)
cause_answer Is plain t status (a, is, h) = cause_print a (plain a is) t status h

abbrev IsThis : {A : Type 0} → Option A → Type 0
IsThis (Some x) = Unit {0}
IsThis None = ⊥

some_none : {A : Type 0} {x : A} → Some x ≡ None → ⊥
some_none is = subst IsThis is tt

-- a file that can't be read
pub broken_read : (slot : Slot) (count : ℕ) (t : List Event) (taken : TakenView) → Takes slot count t taken → text_of taken ≡ None → Happened (IsFailure (slot_kind slot)) t
broken_read slot count t (full bytes) h is = absurd (some_none is)
broken_read slot count t (short bytes) h is = absurd (some_none is)
broken_read slot count t broken h is = subst (Happened (IsFailure (slot_kind slot))) (sym h.1.events) (happened_last (IsFailure (slot_kind slot)) (map (took slot) h.1.pieces) (read_failed slot ∷ []) (inl refl))

unread_open : (slot : Slot) (name : List ℕ) (limit : ℕ) (ok : Bool) (t u : List Event) → t ≡ opened slot name ok ∷ [] → after_open slot limit ok u None → Happened (IsFailure (slot_kind slot)) (t ++ u)
unread_open slot name limit true t u is h = happened_last (IsFailure (slot_kind slot)) t u (subst (Happened (IsFailure (slot_kind slot))) (sym h.splits) (happened_first (IsFailure (slot_kind slot)) h.first h.rest (broken_read slot (limit + 1) h.first h.between h.does (sym h.goes.1))))
unread_open slot name limit false t u is h = happened_first (IsFailure (slot_kind slot)) t u (subst (Happened (IsFailure (slot_kind slot))) (sym is) (inl refl))

pub unread_file : (slot : Slot) (name : List ℕ) (limit : ℕ) (t : List Event) → ReadsFile slot name limit t None → Happened (IsFailure (slot_kind slot)) t
unread_file slot name limit t h = subst (Happened (IsFailure (slot_kind slot))) (sym h.splits) (unread_open slot name limit h.between h.first h.rest h.does h.goes)

-- ---- a run

-- out of memory is no fault of the outside
pub cause_run : {outs : List Out} (work : Step Status) → HasCause work → HasCause (RunsIn outs work)
cause_run work cause t status (done h) = cause t status h
cause_run work cause t status (out_of_memory h) = subst (Explains status) (sym h.splits) (cause_tell _ h.between h.first h.rest status (subst (λ (s : Status). Explains s h.first) (sym h.does.1) tt) h.goes)
