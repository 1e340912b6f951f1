-- What the functions that read a form answer. This project's own.
use Rattle.std.specs.Prelude.{◌≡◌, [], Result, Ok, Err}
use Rattle.tl_show.specs.Reading.{Read}
use Rattle.tl_show.specs.declared.fault.FormCause.{FormCause}
use Rattle.tl_show.specs.declared.fault.FormFault.{FormFault}
use Rattle.tl_show.specs.declared.fault.FormFault.TheVariants.{Form, Memory}

-- this fault is that of what is read; out of memory is free
abbrev pub TellsFault : {A : Type 0} → Read A → FormFault → Type 0
TellsFault r (Form path cause) = r ≡ Err (path.items, cause)
TellsFault r Memory = Unit {0}

-- the answer is what is read, as it is seen
abbrev pub Tells : {A X : Type 0} → (X → A) → Read A → Result X FormFault → Type 0
Tells see r (Ok x) = r ≡ Ok (see x)
Tells see r (Err fault) = TellsFault r fault

-- the fault has this cause, and lies in no part; memory was there
abbrev pub IsHere : FormCause → FormFault → Type 0
IsHere cause (Form path c) = (path.items ≡ []) × (c ≡ cause)
IsHere cause Memory = ⊥
