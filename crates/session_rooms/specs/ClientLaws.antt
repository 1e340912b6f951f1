-- What a run of `client` may do, whatever happens. This project's own.
use Rattle.std.specs.Prelude.{◌≡◌, ℕ, List}
use Rattle.tl_base.specs.declared.host.Slot.{Slot}
use Rattle.tl_base.specs.declared.host.Slot.TheVariants as slots
use Rattle.tl_base.specs.declared.host.Out.{Out}
use Rattle.tl_base.specs.declared.host.Out.TheVariants as outs
use Rattle.outside.specs.Events.{Event, opened, took, ended, read_failed, created, put, write_failed, listened, connected, accepted, told}

-- Schema, State and the link are read
abbrev pub IsReadByClient : Slot → Type 0
IsReadByClient slots.Schema = Unit {0}
IsReadByClient slots.Input = ⊥
IsReadByClient slots.State = Unit {0}
IsReadByClient slots.Link = Unit {0}

-- the schema's file is opened by the slot Schema, and the state's by the slot State
abbrev pub IsOpenedByClient : List ℕ → List ℕ → Slot → List ℕ → Type 0
IsOpenedByClient schema state slots.Schema name = name ≡ schema
IsOpenedByClient schema state slots.Input name = ⊥
IsOpenedByClient schema state slots.State name = name ≡ state
IsOpenedByClient schema state slots.Link name = ⊥

-- only State is created, under the state's name
abbrev pub IsCreatedByClient : List ℕ → Out → List ℕ → Type 0
IsCreatedByClient state outs.Output name = ⊥
IsCreatedByClient state outs.Errors name = ⊥
IsCreatedByClient state outs.State name = name ≡ state
IsCreatedByClient state outs.Link name = ⊥

-- two files are opened and read, a link is made to the address, read and written to, State is created under its name; and Output, Errors and State are written to
abbrev pub IsOfClient : List ℕ → List ℕ → List ℕ → Event → Type 0
IsOfClient schema address state (opened slot name ok) = IsOpenedByClient schema state slot name
IsOfClient schema address state (took slot bytes) = IsReadByClient slot
IsOfClient schema address state (ended slot) = IsReadByClient slot
IsOfClient schema address state (read_failed slot) = IsReadByClient slot
IsOfClient schema address state (created out name ok) = IsCreatedByClient state out name
IsOfClient schema address state (put out bytes) = Unit {0}
IsOfClient schema address state (write_failed out) = Unit {0}
IsOfClient schema address state (listened to ok) = ⊥
IsOfClient schema address state (connected to ok) = to ≡ address
IsOfClient schema address state (accepted ok) = ⊥
IsOfClient schema address state (told moment) = ⊥
