-- What a run of `post` may do, whatever happens. This project's own.
use Rattle.std.specs.Prelude.{◌≡◌, ℕ, List}
use Rattle.tl_base.specs.declared.host.Slot.{Slot}
use Rattle.tl_base.specs.declared.host.Slot.TheVariants as slots
use Rattle.tl_base.specs.declared.host.Out.{Out}
use Rattle.tl_base.specs.declared.host.Out.TheVariants as outs
use Rattle.outside.specs.Events.{Event, opened, took, ended, read_failed, created, put, write_failed, listened, connected, accepted, told}

-- Schema, Input and the link are read
abbrev pub IsReadByPost : Slot → Type 0
IsReadByPost slots.Schema = Unit {0}
IsReadByPost slots.Input = Unit {0}
IsReadByPost slots.State = ⊥
IsReadByPost slots.Link = Unit {0}

-- the schema's file is opened by the slot Schema, and the input's by the slot Input
abbrev pub IsOpenedByPost : List ℕ → List ℕ → Slot → List ℕ → Type 0
IsOpenedByPost schema input slots.Schema name = name ≡ schema
IsOpenedByPost schema input slots.Input name = name ≡ input
IsOpenedByPost schema input slots.State name = ⊥
IsOpenedByPost schema input slots.Link name = ⊥

-- Output, Errors and the link are written to
abbrev pub IsWrittenByPost : Out → Type 0
IsWrittenByPost outs.Output = Unit {0}
IsWrittenByPost outs.Errors = Unit {0}
IsWrittenByPost outs.State = ⊥
IsWrittenByPost outs.Link = Unit {0}

-- two files are opened and read, and a link is made to the address, written to and read; Output and Errors are written to
abbrev pub IsOfPost : List ℕ → List ℕ → List ℕ → Event → Type 0
IsOfPost schema address input (opened slot name ok) = IsOpenedByPost schema input slot name
IsOfPost schema address input (took slot bytes) = IsReadByPost slot
IsOfPost schema address input (ended slot) = IsReadByPost slot
IsOfPost schema address input (read_failed slot) = IsReadByPost slot
IsOfPost schema address input (created out name ok) = ⊥
IsOfPost schema address input (put out bytes) = IsWrittenByPost out
IsOfPost schema address input (write_failed out) = IsWrittenByPost out
IsOfPost schema address input (listened to ok) = ⊥
IsOfPost schema address input (connected to ok) = to ≡ address
IsOfPost schema address input (accepted ok) = ⊥
IsOfPost schema address input (told moment) = ⊥
