-- What a command may do that reads files and prints an answer, whatever happens. This project's own.
use Rattle.std.specs.Prelude.{◌≡◌, ◌⊎◌, ℕ, List, [], ◌∷◌}
use Rattle.tl_base.specs.declared.host.Slot.{Slot}
use Rattle.tl_base.specs.declared.host.Out.{Out}
use Rattle.tl_base.specs.declared.host.Out.TheVariants as outs
use Rattle.outside.specs.declared.status.Status.{Status}
use Rattle.outside.specs.Events.{Event, opened, took, ended, read_failed, created, put, write_failed, listened, connected, accepted, told}
use Rattle.outside.specs.Steps.{Step}

-- slots, and the name of the file that is read by each
abbrev pub Named : Type 0
Named = List (Slot × List ℕ)

-- what a command does, the outs that it may have written to where memory runs out, and the files that it reads
pub record Command : Type 1 where
  pub work : Step Status
  pub writes : List Out
  pub reads : Named

-- the file of this name is read by this slot
abbrev pub IsRead : Named → Slot → List ℕ → Type 0
IsRead [] slot name = ⊥
IsRead (r ∷ reads) slot name = ((slot ≡ r.0) × (name ≡ r.1)) ⊎ IsRead reads slot name

-- some file is
abbrev pub IsUsed : Named → Slot → Type 0
IsUsed reads slot = (name : List ℕ) × IsRead reads slot name

-- Output or Errors
abbrev pub IsPrinted : Out → Type 0
IsPrinted outs.Output = Unit {0}
IsPrinted outs.Errors = Unit {0}
IsPrinted outs.State = ⊥
IsPrinted outs.Link = ⊥

-- these files are opened, each by its slot, and read; Output and Errors are written to
abbrev pub IsOf : Named → Event → Type 0
IsOf reads (opened slot name ok) = IsRead reads slot name
IsOf reads (took slot bytes) = IsUsed reads slot
IsOf reads (ended slot) = IsUsed reads slot
IsOf reads (read_failed slot) = IsUsed reads slot
IsOf reads (created out name ok) = ⊥
IsOf reads (put out bytes) = IsPrinted out
IsOf reads (write_failed out) = IsPrinted out
IsOf reads (listened address ok) = ⊥
IsOf reads (connected address ok) = ⊥
IsOf reads (accepted ok) = ⊥
IsOf reads (told moment) = ⊥
