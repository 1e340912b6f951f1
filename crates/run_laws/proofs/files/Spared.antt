-- What a run over files leaves of an outside: all but the slots of files, Output and Errors.
use Rattle.std.proofs.Common.{◌≡◌, ◌⊎◌, ℕ, List, [], ◌∷◌, ◌++◌, true, false, refl, ap, ◌∙◌, inl, inr}
use Rattle.tl_base.specs.Outside.{View, left_of, with_left, written_of, with_written}
use Rattle.tl_base.specs.declared.host.Slot.{Slot}
use Rattle.tl_base.specs.declared.host.Slot.TheVariants as slots
use Rattle.tl_base.specs.declared.host.Out.{Out}
use Rattle.tl_base.specs.declared.host.Out.TheVariants as outs
use Rattle.outside.specs.Kept.{KeepsRest}
use Rattle.outside.specs.Begun.{IsAmong, WritesOnly, to_output}
use Rattle.outside.specs.Events.{Event, Outside, opened, took, ended, read_failed, created, put, write_failed, listened, connected, accepted, told}
use Rattle.outside.specs.Laws.{Throughout}
use Rattle.outside.specs.Fits.{Happens, Fits}

-- ---- events

-- the slots of files
abbrev pub IsFileSlot : Slot → Type 0
IsFileSlot slots.Schema = Unit {0}
IsFileSlot slots.Input = Unit {0}
IsFileSlot slots.State = ⊥
IsFileSlot slots.Link = ⊥

-- the slot of the schema
abbrev pub IsSchemaSlot : Slot → Type 0
IsSchemaSlot slots.Schema = Unit {0}
IsSchemaSlot slots.Input = ⊥
IsSchemaSlot slots.State = ⊥
IsSchemaSlot slots.Link = ⊥

-- Output or Errors
abbrev pub IsPrint : Out → Type 0
IsPrint outs.Output = Unit {0}
IsPrint outs.Errors = Unit {0}
IsPrint outs.State = ⊥
IsPrint outs.Link = ⊥

-- one of these alone
abbrev pub IsOutput : Out → Type 0
IsOutput outs.Output = Unit {0}
IsOutput outs.Errors = ⊥
IsOutput outs.State = ⊥
IsOutput outs.Link = ⊥

abbrev pub IsErrors : Out → Type 0
IsErrors outs.Output = ⊥
IsErrors outs.Errors = Unit {0}
IsErrors outs.State = ⊥
IsErrors outs.Link = ⊥

-- none
abbrev pub NoOut : Out → Type 0
NoOut out = ⊥

-- these slots are opened or read, and these outs are written to
abbrev pub Touches : (Slot → Type 0) → (Out → Type 0) → Event → Type 0
Touches Slots Outs (opened slot name ok) = Slots slot
Touches Slots Outs (took slot bytes) = Slots slot
Touches Slots Outs (ended slot) = Slots slot
Touches Slots Outs (read_failed slot) = Slots slot
Touches Slots Outs (created out name ok) = ⊥
Touches Slots Outs (put out bytes) = Outs out
Touches Slots Outs (write_failed out) = Outs out
Touches Slots Outs (listened address ok) = ⊥
Touches Slots Outs (connected address ok) = ⊥
Touches Slots Outs (accepted ok) = ⊥
Touches Slots Outs (told moment) = ⊥

-- a file is read
abbrev pub IsFileRead : Event → Type 0
IsFileRead = Touches IsFileSlot NoOut

-- likewise, or something is printed
abbrev pub IsPlain : Event → Type 0
IsPlain = Touches IsFileSlot IsPrint

-- likewise, but of Input
abbrev pub IsDry : Event → Type 0
IsDry = Touches IsSchemaSlot IsPrint

-- likewise, but to one of the two
abbrev pub ToOutput : Event → Type 0
ToOutput = Touches IsFileSlot IsOutput

abbrev pub ToErrors : Event → Type 0
ToErrors = Touches IsFileSlot IsErrors

touches_as : (S T : Slot → Type 0) (O P : Out → Type 0) → ((slot : Slot) → S slot → T slot) → ((out : Out) → O out → P out) → (e : Event) → Touches S O e → Touches T P e
touches_as S T O P s o (opened slot name ok) h = s slot h
touches_as S T O P s o (took slot bytes) h = s slot h
touches_as S T O P s o (ended slot) h = s slot h
touches_as S T O P s o (read_failed slot) h = s slot h
touches_as S T O P s o (created out name ok) h = absurd h
touches_as S T O P s o (put out bytes) h = o out h
touches_as S T O P s o (write_failed out) h = o out h
touches_as S T O P s o (listened address ok) h = absurd h
touches_as S T O P s o (connected address ok) h = absurd h
touches_as S T O P s o (accepted ok) h = absurd h
touches_as S T O P s o (told moment) h = absurd h

output_printed : (out : Out) → IsOutput out → IsPrint out
output_printed outs.Output h = tt
output_printed outs.Errors h = absurd h
output_printed outs.State h = absurd h
output_printed outs.Link h = absurd h

pub throughout_as : (P Q : Event → Type 0) → ((e : Event) → P e → Q e) → (t : List Event) → Throughout P t → Throughout Q t
throughout_as P Q each [] h = tt
throughout_as P Q each (e ∷ t) h = (each e h.0, throughout_as P Q each t h.1)

pub reads_plain : (t : List Event) → Throughout IsFileRead t → Throughout IsPlain t
reads_plain = throughout_as IsFileRead IsPlain (touches_as IsFileSlot IsFileSlot NoOut IsPrint (λ slot h. h) (λ out h. absurd h))

pub output_plain : (t : List Event) → Throughout ToOutput t → Throughout IsPlain t
output_plain = throughout_as ToOutput IsPlain (touches_as IsFileSlot IsFileSlot IsOutput IsPrint (λ slot h. h) output_printed)

pub reads_to_output : (t : List Event) → Throughout IsFileRead t → Throughout ToOutput t
reads_to_output = throughout_as IsFileRead ToOutput (touches_as IsFileSlot IsFileSlot NoOut IsOutput (λ slot h. h) (λ out h. absurd h))

pub reads_to_errors : (t : List Event) → Throughout IsFileRead t → Throughout ToErrors t
reads_to_errors = throughout_as IsFileRead ToErrors (touches_as IsFileSlot IsFileSlot NoOut IsErrors (λ slot h. h) (λ out h. absurd h))

-- where nothing was written but to these, it is plain what was
not_errors : (outs.Errors ≡ outs.Output) ⊎ ⊥ → ⊥
not_errors (inl is) = absurd cc
not_errors (inr h) = h

silent_event : (e : Event) → IsPlain e → WritesOnly [] e → IsFileRead e
silent_event (opened slot name ok) is only = is
silent_event (took slot bytes) is only = is
silent_event (ended slot) is only = is
silent_event (read_failed slot) is only = is
silent_event (created out name ok) is only = absurd is
silent_event (put out bytes) is only = absurd only
silent_event (write_failed out) is only = absurd only
silent_event (listened address ok) is only = absurd is
silent_event (connected address ok) is only = absurd is
silent_event (accepted ok) is only = absurd is
silent_event (told moment) is only = absurd is

is_output : (out : Out) → IsPrint out → IsAmong out to_output → IsOutput out
is_output outs.Output is only = tt
is_output outs.Errors is only = absurd (not_errors only)
is_output outs.State is only = absurd is
is_output outs.Link is only = absurd is

output_event : (e : Event) → IsPlain e → WritesOnly to_output e → ToOutput e
output_event (opened slot name ok) is only = is
output_event (took slot bytes) is only = is
output_event (ended slot) is only = is
output_event (read_failed slot) is only = is
output_event (created out name ok) is only = absurd is
output_event (put out bytes) is only = is_output out is only
output_event (write_failed out) is only = is_output out is only
output_event (listened address ok) is only = absurd is
output_event (connected address ok) is only = absurd is
output_event (accepted ok) is only = absurd is
output_event (told moment) is only = absurd is

pub silent : (t : List Event) → Throughout IsPlain t → Throughout (WritesOnly []) t → Throughout IsFileRead t
silent [] is only = tt
silent (e ∷ t) is only = (silent_event e is.0 only.0, silent t is.1 only.1)

pub output_alone : (t : List Event) → Throughout IsPlain t → Throughout (WritesOnly to_output) t → Throughout ToOutput t
output_alone [] is only = tt
output_alone (e ∷ t) is only = (output_event e is.0 only.0, output_alone t is.1 only.1)

-- ---- what is left as it was

module _ {A : Type 0} (part : View → A) (S : Slot → Type 0) (O : Out → Type 0) (slot_same : (slot : Slot) → S slot → (bytes : List ℕ) (v : View) → part (with_left slot bytes v) ≡ part v)
    (out_same : (out : Out) → O out → (bytes : List ℕ) (v : View) → part (with_written out bytes v) ≡ part v) where
  event_same : (e : Event) (s n : Outside) → Happens e s n → Touches S O e → part n.view ≡ part s.view
  event_same (opened slot name true) s n h is = ap part h.0.2 ∙ slot_same slot is h.0.0 s.view
  event_same (opened slot name false) s n h is = ap part h.0
  event_same (took slot bytes) s n h is = ap part h.1 ∙ slot_same slot is (left_of slot n.view) s.view
  event_same (ended slot) s n h is = ap part h.1
  event_same (read_failed slot) s n h is = ap part h.0
  event_same (created out name ok) s n h is = absurd is
  event_same (put out bytes) s n h is = ap part h.0 ∙ out_same out is (written_of out s.view ++ bytes) s.view
  event_same (write_failed out) s n h is = ap part h.0
  event_same (listened address ok) s n h is = absurd is
  event_same (connected address ok) s n h is = absurd is
  event_same (accepted ok) s n h is = absurd is
  event_same (told moment) s n h is = absurd is

  all_same : (t : List Event) (s n : Outside) → Fits t s n → Throughout (Touches S O) t → part n.view ≡ part s.view
  all_same [] s n f is = ap (λ (o : Outside). part o.view) f
  all_same (e ∷ t) s n f is = all_same t f.0 n f.2 is.1 ∙ event_same e s f.0 f.1 is.0

-- the view, with nothing in the slots of files, Output and Errors
abbrev bare : View → View
bare v = record v { left = record v.left { schema = []; input = [] }; written = record v.written { output = []; errors = [] } }

-- with what this one has there
abbrev filled : View → View → View
filled w v = record v { left = record v.left { schema = w.left.schema; input = w.left.input }; written = record v.written { output = w.written.output; errors = w.written.errors } }

slot_bare : (slot : Slot) → IsFileSlot slot → (bytes : List ℕ) (v : View) → bare (with_left slot bytes v) ≡ bare v
slot_bare slots.Schema is bytes v = refl
slot_bare slots.Input is bytes v = refl
slot_bare slots.State is bytes v = absurd is
slot_bare slots.Link is bytes v = absurd is

out_bare : (out : Out) → IsPrint out → (bytes : List ℕ) (v : View) → bare (with_written out bytes v) ≡ bare v
out_bare outs.Output is bytes v = refl
out_bare outs.Errors is bytes v = refl
out_bare outs.State is bytes v = absurd is
out_bare outs.Link is bytes v = absurd is

-- nothing changes but these slots and outs
pub plain_keeps : (t : List Event) (s n : Outside) → Fits t s n → Throughout IsPlain t → KeepsRest s.view n.view
plain_keeps t s n f is = ap (filled n.view) (all_same bare IsFileSlot IsPrint slot_bare out_bare t s n f is)

slot_dry : (slot : Slot) → IsSchemaSlot slot → (bytes : List ℕ) (v : View) → (with_left slot bytes v).left.input ≡ v.left.input
slot_dry slots.Schema is bytes v = refl
slot_dry slots.Input is bytes v = absurd is
slot_dry slots.State is bytes v = absurd is
slot_dry slots.Link is bytes v = absurd is

out_dry : (out : Out) → IsPrint out → (bytes : List ℕ) (v : View) → (with_written out bytes v).left.input ≡ v.left.input
out_dry out is bytes v = refl

-- Input is left
pub dry_keeps : (t : List Event) (s n : Outside) → Fits t s n → Throughout IsDry t → n.view.left.input ≡ s.view.left.input
dry_keeps = all_same (λ v. v.left.input) IsSchemaSlot IsPrint slot_dry out_dry

errors_output : (out : Out) → IsErrors out → (bytes : List ℕ) (v : View) → (with_written out bytes v).written.output ≡ v.written.output
errors_output outs.Output is bytes v = absurd is
errors_output outs.Errors is bytes v = refl
errors_output outs.State is bytes v = absurd is
errors_output outs.Link is bytes v = absurd is

output_errors : (out : Out) → IsOutput out → (bytes : List ℕ) (v : View) → (with_written out bytes v).written.errors ≡ v.written.errors
output_errors outs.Output is bytes v = refl
output_errors outs.Errors is bytes v = absurd is
output_errors outs.State is bytes v = absurd is
output_errors outs.Link is bytes v = absurd is

-- Output is
pub output_left : (t : List Event) (s n : Outside) → Fits t s n → Throughout ToErrors t → n.view.written.output ≡ s.view.written.output
output_left = all_same (λ v. v.written.output) IsFileSlot IsErrors (λ slot is bytes v. refl) errors_output

-- Errors is
pub errors_left : (t : List Event) (s n : Outside) → Fits t s n → Throughout ToOutput t → n.view.written.errors ≡ s.view.written.errors
errors_left = all_same (λ v. v.written.errors) IsFileSlot IsOutput (λ slot is bytes v. refl) output_errors
