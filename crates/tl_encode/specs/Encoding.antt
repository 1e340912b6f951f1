-- What encoding answers, and what it writes: the spelling of a value, or nothing where the value doesn't fit its type. This project's own.
use Rattle.std.specs.Prelude.{◌≡◌, ℕ, List, length, Option, Some, None, Vec, Result, Ok, Err}
use Rattle.std.specs.declared.alloc.Global.{Global}
use Rattle.std.specs.Io.KnownBytes.{Appends}
use Rattle.tl_base.specs.Writing.{AppendsPrefix}
use Rattle.tl_types.specs.Fitting.{MisfitView}
use Rattle.tl_types.specs.declared.misfit.FitFault.{FitFault}
use Rattle.tl_types.specs.declared.misfit.FitFault.TheVariants as fit
use Rattle.tl_encode.specs.declared.fault.EncodeFault.{EncodeFault}
use Rattle.tl_encode.specs.declared.fault.EncodeFault.TheVariants.{Misfit, WriteFault, Memory}

-- The spelling is written, and its length is answered; after a failed write a prefix of it was written. Out of memory is free here.
abbrev pub WritesSpelling : Option (List ℕ) → Option (List ℕ) → List ℕ → Result ℕ EncodeFault → Type 0
WritesSpelling old new spelling (Ok count) = (count ≡ length spelling) × Appends old new spelling
WritesSpelling old new spelling (Err (Misfit told)) = ⊥
WritesSpelling old new spelling (Err WriteFault) = AppendsPrefix old new spelling
WritesSpelling old new spelling (Err Memory) = Unit {0}

-- The misfit is answered. Out of memory is free here.
abbrev pub AnswersMisfit : MisfitView → Result ℕ EncodeFault → Type 0
AnswersMisfit m (Ok count) = ⊥
AnswersMisfit m (Err (Misfit told)) = (told.path.items, told.cause) ≡ m
AnswersMisfit m (Err WriteFault) = ⊥
AnswersMisfit m (Err Memory) = Unit {0}

-- At a misfit, and when out of memory, the sink stays as it was.
abbrev pub KeepsSink : {K : Type 0} → K → K → Result ℕ EncodeFault → Type 0
KeepsSink old new (Ok count) = Unit {0}
KeepsSink old new (Err (Misfit told)) = new ≡ old
KeepsSink old new (Err WriteFault) = Unit {0}
KeepsSink old new (Err Memory) = new ≡ old

-- Bytes are given where the value has no misfit, and otherwise the misfit is told. Out of memory is free here.
abbrev pub TellsFit : Option MisfitView → Result (Vec ℕ Global) FitFault → Type 0
TellsFit m (Ok bytes) = m ≡ None
TellsFit m (Err (fit.Misfit told)) = m ≡ Some (told.path.items, told.cause)
TellsFit m (Err fit.Memory) = Unit {0}

-- why a value doesn't fit, as a fault of encoding
abbrev pub as_encode_fault : FitFault → EncodeFault
as_encode_fault (fit.Misfit told) = Misfit told
as_encode_fault fit.Memory = Memory
