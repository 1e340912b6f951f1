-- What a run of `serve` may do, and what can be said of `keep`, whatever happens. This project's own.
use Rattle.std.specs.Prelude.{◌≡◌, ℕ, List, [], ◌∷◌}
use Rattle.tl_base.specs.declared.host.Slot.{Slot}
use Rattle.tl_base.specs.declared.host.Slot.TheVariants as slots
use Rattle.tl_base.specs.declared.host.Out.{Out}
use Rattle.tl_base.specs.declared.host.Out.TheVariants as outs
use Rattle.outside.specs.Events.{Event, opened, took, ended, read_failed, created, put, write_failed, listened, connected, accepted, told}
use Rattle.outside.specs.Laws.{Happened, Throughout, Explains}
use Rattle.serve_rooms.specs.Acts.{Act, hosted, loaded, added, events_in, IsKeeperFault}
use Rattle.serve_rooms.specs.Doing.{RunsKept}
use Rattle.serve_rooms.specs.Serve.{keeps}
use Rattle.serve_rooms.specs.declared.status.KeptStatus.{KeptStatus}
use Rattle.serve_rooms.specs.declared.status.KeptStatus.TheVariants.{Run, KeepFault}

-- ---- what is touched

-- Schema and the link are read
abbrev pub IsReadByServe : Slot → Type 0
IsReadByServe slots.Schema = Unit {0}
IsReadByServe slots.Input = ⊥
IsReadByServe slots.State = ⊥
IsReadByServe slots.Link = Unit {0}

-- the schema's file is opened by the slot Schema
abbrev pub IsOpenedByServe : List ℕ → Slot → List ℕ → Type 0
IsOpenedByServe schema slots.Schema name = name ≡ schema
IsOpenedByServe schema slots.Input name = ⊥
IsOpenedByServe schema slots.State name = ⊥
IsOpenedByServe schema slots.Link name = ⊥

-- Output, Errors and the link are written to
abbrev pub IsWrittenByServe : Out → Type 0
IsWrittenByServe outs.Output = Unit {0}
IsWrittenByServe outs.Errors = Unit {0}
IsWrittenByServe outs.State = ⊥
IsWrittenByServe outs.Link = Unit {0}

-- the schema's file is opened and read; links are taken at the address, read and written to, and the clock is read; Output and Errors are written to
abbrev pub IsOfServe : List ℕ → List ℕ → Event → Type 0
IsOfServe schema address (opened slot name ok) = IsOpenedByServe schema slot name
IsOfServe schema address (took slot bytes) = IsReadByServe slot
IsOfServe schema address (ended slot) = IsReadByServe slot
IsOfServe schema address (read_failed slot) = IsReadByServe slot
IsOfServe schema address (created out name ok) = ⊥
IsOfServe schema address (put out bytes) = IsWrittenByServe out
IsOfServe schema address (write_failed out) = IsWrittenByServe out
IsOfServe schema address (listened at ok) = at ≡ address
IsOfServe schema address (connected to ok) = ⊥
IsOfServe schema address (accepted ok) = Unit {0}
IsOfServe schema address (told moment) = Unit {0}

-- no run of `keep` does anything else with its host, also one that runs out of memory
abbrev pub KeepTouches : Type 0
KeepTouches = (schema address : List ℕ) (sessions : ℕ) (t : List Act) (status : KeptStatus) → RunsKept (keeps schema address sessions) t status → Throughout (IsOfServe schema address) (events_in t)

-- ---- when a keeper is read

-- connections are taken at an address, or can't be
abbrev pub IsListening : Event → Type 0
IsListening (opened slot name ok) = ⊥
IsListening (took slot bytes) = ⊥
IsListening (ended slot) = ⊥
IsListening (read_failed slot) = ⊥
IsListening (created out name ok) = ⊥
IsListening (put out bytes) = ⊥
IsListening (write_failed out) = ⊥
IsListening (listened at ok) = Unit {0}
IsListening (connected to ok) = ⊥
IsListening (accepted ok) = ⊥
IsListening (told moment) = ⊥

-- the keeper's entries aren't read
abbrev pub IsUnread : Act → Type 0
IsUnread (hosted e) = Unit {0}
IsUnread (loaded by) = ⊥
IsUnread (added e ok) = Unit {0}

-- after something listens they aren't read
abbrev pub ReadsFirst : List Act → Type 0
ReadsFirst [] = Unit {0}
ReadsFirst (hosted e ∷ t) = (IsListening e → Throughout IsUnread t) × ReadsFirst t
ReadsFirst (loaded by ∷ t) = ReadsFirst t
ReadsFirst (added e ok ∷ t) = ReadsFirst t

-- nothing listens before the entries are read
abbrev pub KeepReadsFirst : Type 0
KeepReadsFirst = (schema address : List ℕ) (sessions : ℕ) (t : List Act) (status : KeptStatus) → RunsKept (keeps schema address sessions) t status → ReadsFirst t

-- ---- causes

-- a keeper's fault comes only of a call to the keeper that failed
abbrev pub ExplainsKept : KeptStatus → List Act → Type 0
ExplainsKept (Run status) t = Explains status (events_in t)
ExplainsKept KeepFault t = Happened IsKeeperFault t

-- a run of `keep` ends by the status of a fault only where a call of that kind failed
abbrev pub KeepHasCause : Type 0
KeepHasCause = (schema address : List ℕ) (sessions : ℕ) (t : List Act) (status : KeptStatus) → RunsKept (keeps schema address sessions) t status → ExplainsKept status t
