-- What happens between a program and its outside, in order: calls, with what they gave. This project's own.
use Rattle.std.specs.Prelude.{ℕ, List, [], ◌∷◌, take, Bool, true, false, Option, Result, Ok, Err}
use Rattle.tl_base.specs.Causes.{one_more}
use Rattle.tl_base.specs.Kinds.{count_of, with_count, slot_kind, out_kind}
use Rattle.tl_base.specs.Outside.{View}
use Rattle.tl_base.specs.Scripts.{ScriptView}
use Rattle.tl_base.specs.declared.counts.Counts.{Counts}
use Rattle.tl_base.specs.declared.counts.Kind.{Kind}
use Rattle.tl_base.specs.declared.counts.Kind.TheVariants.{Links}
use Rattle.tl_base.specs.declared.host.Slot.{Slot}
use Rattle.tl_base.specs.declared.host.Out.{Out}

-- A slot was opened by a name, or was not; a read gave bytes, or there were none left, or it failed; an out was created by a name, or was not; bytes were
-- put to an out, or that failed; connections are taken at an address, a link was made to one, the next link was taken, or not; and the time was told.
pub data Event : Type 0 where
  opened : (slot : Slot) (name : List ℕ) (ok : Bool) → Event
  took : (slot : Slot) (bytes : List ℕ) → Event
  ended : (slot : Slot) → Event
  read_failed : (slot : Slot) → Event
  created : (out : Out) (name : List ℕ) (ok : Bool) → Event
  put : (out : Out) (bytes : List ℕ) → Event
  write_failed : (out : Out) → Event
  listened : (address : List ℕ) (ok : Bool) → Event
  connected : (address : List ℕ) (ok : Bool) → Event
  accepted : (ok : Bool) → Event
  told : (moment : ℕ) → Event

-- ---- what calls give

-- a read gave these bytes; none is the end
abbrev pub given_event : Slot → List ℕ → Event
given_event slot [] = ended slot
given_event slot (b ∷ bytes) = took slot (b ∷ bytes)

abbrev pub read_event : {E : Type 0} → Slot → List ℕ → Result ℕ E → Event
read_event slot into (Ok n) = given_event slot (take n into)
read_event slot into (Err e) = read_failed slot

-- a read into a buffer without room does nothing
abbrev pub read_events : {E : Type 0} → Slot → List ℕ → Result ℕ E → List Event
read_events slot [] result = []
read_events slot (b ∷ into) result = read_event slot (b ∷ into) result ∷ []

abbrev pub write_event : {E : Type 0} → Out → List ℕ → Result ℕ E → Event
write_event out piece (Ok n) = put out (take n piece)
write_event out piece (Err e) = write_failed out

-- a write of nothing does nothing
abbrev pub write_events : {E : Type 0} → Out → List ℕ → Result ℕ E → List Event
write_events out [] result = []
write_events out (b ∷ piece) result = write_event out (b ∷ piece) result ∷ []

-- ---- counts of failures

-- one more failure of this kind
abbrev pub counted_as : Kind → Counts → Counts
counted_as kind c = with_count kind (one_more (count_of kind c)) c

-- likewise, where it failed
abbrev pub counted_unless : Kind → Bool → Counts → Counts
counted_unless kind true c = c
counted_unless kind false c = counted_as kind c

-- an event that is a failure raises the count of its kind
abbrev pub counted : Event → Counts → Counts
counted (opened slot name ok) c = counted_unless (slot_kind slot) ok c
counted (took slot bytes) c = c
counted (ended slot) c = c
counted (read_failed slot) c = counted_as (slot_kind slot) c
counted (created out name ok) c = counted_unless (out_kind out) ok c
counted (put out bytes) c = c
counted (write_failed out) c = counted_as (out_kind out) c
counted (listened address ok) c = counted_unless Links ok c
counted (connected address ok) c = counted_unless Links ok c
counted (accepted ok) c = counted_unless Links ok c
counted (told moment) c = c

abbrev pub counted_all : List Event → Counts → Counts
counted_all [] c = c
counted_all (e ∷ t) c = counted_all t (counted e c)

-- ---- pasts

-- an outside at a moment: what it shows, which calls it was told to fail, and how many there were
pub record Outside : Type 0 where
  pub view : View
  pub script : ScriptView

-- how an outside began, and what has happened since
pub record Past : Type 0 where
  pub began : Outside
  pub events : List Event

-- what has happened, in a host that tells it, and how often its calls have failed
pub record HostState : Type 0 where
  pub past : Option Past
  pub counts : Counts
