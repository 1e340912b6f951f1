-- What has happened, as it is kept. This project's own.
use Rattle.std.specs.Prelude.{◌≡◌, List, [], ◌∷◌, ◌++◌, map, Option, Some, None, Result, Ok, Err}
use Rattle.std.specs.declared.vec.Vec.{Vec}
use Rattle.outside.specs.Events.{Event, opened, took, ended, read_failed, created, put, write_failed, listened, connected, accepted, told}
use Rattle.outside.specs.declared.logged.Logged.{Logged}
use Rattle.outside.specs.declared.logged.Logged.TheVariants as logged

abbrev pub event_of : Logged → Event
event_of (logged.Opened slot name ok) = opened slot name.items ok
event_of (logged.Took slot bytes) = took slot bytes.items
event_of (logged.Ended slot) = ended slot
event_of (logged.ReadFailed slot) = read_failed slot
event_of (logged.Created out name ok) = created out name.items ok
event_of (logged.Put out bytes) = put out bytes.items
event_of (logged.WriteFailed out) = write_failed out
event_of (logged.Listened address ok) = listened address.items ok
event_of (logged.Connected address ok) = connected address.items ok
event_of (logged.Accepted ok) = accepted ok
event_of (logged.Told moment) = told moment

abbrev pub log_events : {Z : Type 0} → Option (Vec Logged Z) → Option (List Event)
log_events None = None
log_events (Some log) = Some (map event_of log.items)

-- it is this event, where there was memory for it
abbrev pub LogsAs : {E : Type 0} → Event → Result Logged E → Type 0
LogsAs e (Ok event) = event_of event ≡ e
LogsAs e (Err x) = Unit {0}

-- the event is appended; or nothing is told from then on
abbrev pub Notes : {E : Type 0} → Option (List Event) → Result Logged E → Option (List Event) → Type 0
Notes old event None = Unit {0}
Notes None event (Some new) = ⊥
Notes (Some old) (Err e) (Some new) = ⊥
Notes (Some old) (Ok event) (Some new) = new ≡ old ++ event_of event ∷ []

-- nothing has happened yet, where that is told; else nothing is told from then on
abbrev pub fresh : Option (List Event) → Option (List Event)
fresh None = None
fresh (Some []) = Some []
fresh (Some (e ∷ events)) = None
