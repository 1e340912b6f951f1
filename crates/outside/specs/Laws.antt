-- What can be said of whatever is made of steps. This project's own.
use Rattle.std.specs.Prelude.{◌≡◌, List, [], true, false, Option, Some, None}
use Rattle.tl_base.specs.Kinds.{slot_kind, out_kind}
use Rattle.tl_base.specs.declared.host.Slot.TheVariants.{Link}
use Rattle.tl_base.specs.declared.counts.Kind.{Kind}
use Rattle.tl_base.specs.declared.counts.Kind.TheVariants.{Reads, Writes, Links}
use Rattle.outside.specs.declared.status.Status.{Status}
use Rattle.outside.specs.declared.status.Status.TheVariants.{Done, Refused, Usage, ReadFault, WriteFault, Memory, LinkFault, PeerFault}
use Rattle.outside.specs.Events.{Event, opened, took, ended, read_failed, created, put, write_failed, listened, connected, accepted, told}
use Rattle.outside.specs.Steps.{Step, StepOf}
pub use Rattle.outside.specs.Traces.{Happened, Throughout}

-- ---- what happened

-- all that a step does is such
abbrev pub Keeps : {E A : Type 0} → (E → Type 0) → StepOf E A → Type 0
Keeps {E} {A} P S = (t : List E) (a : A) → S t a → Throughout P t

-- ---- failures

-- what an event that is a failure was for
abbrev pub failure : Event → Option Kind
failure (opened slot name true) = None
failure (opened slot name false) = Some (slot_kind slot)
failure (took slot bytes) = None
failure (ended slot) = None
failure (read_failed slot) = Some (slot_kind slot)
failure (created out name true) = None
failure (created out name false) = Some (out_kind out)
failure (put out bytes) = None
failure (write_failed out) = Some (out_kind out)
failure (listened address true) = None
failure (listened address false) = Some Links
failure (connected address true) = None
failure (connected address false) = Some Links
failure (accepted true) = None
failure (accepted false) = Some Links
failure (told moment) = None

abbrev pub IsFailure : Kind → Event → Type 0
IsFailure kind e = failure e ≡ Some kind

-- something came over the link, or its end
abbrev pub IsFromLink : Event → Type 0
IsFromLink (opened slot name ok) = ⊥
IsFromLink (took slot bytes) = slot ≡ Link
IsFromLink (ended slot) = slot ≡ Link
IsFromLink (read_failed slot) = ⊥
IsFromLink (created out name ok) = ⊥
IsFromLink (put out bytes) = ⊥
IsFromLink (write_failed out) = ⊥
IsFromLink (listened address ok) = ⊥
IsFromLink (connected address ok) = ⊥
IsFromLink (accepted ok) = ⊥
IsFromLink (told moment) = ⊥

-- A status that is a fault's comes only after such a failure, and that of the other end's fault only after something came from there. No work that was asked for
-- ends by Usage.
abbrev pub Explains : Status → List Event → Type 0
Explains ReadFault t = Happened (IsFailure Reads) t
Explains WriteFault t = Happened (IsFailure Writes) t
Explains LinkFault t = Happened (IsFailure Links) t
Explains Done t = Unit {0}
Explains Refused t = Unit {0}
Explains Usage t = ⊥
Explains Memory t = Unit {0}
Explains PeerFault t = Happened IsFromLink t

abbrev pub HasCause : Step Status → Type 0
HasCause work = (t : List Event) (status : Status) → work t status → Explains status t
