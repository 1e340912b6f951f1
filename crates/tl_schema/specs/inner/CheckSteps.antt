-- What the checks answer, one after another. This project's own.
use Rattle.std.specs.Prelude.{◌≡◌, ℕ, List, Option, Some, None, Result, Ok, Err}
use Rattle.tl_program.specs.Program.{DeclText}
use Rattle.tl_schema.specs.CheckCauses.{causes, PassesBy, RefusedBy}
use Rattle.tl_schema.specs.declared.fault.CheckCause.{CheckCause}
use Rattle.tl_schema.specs.declared.fault.CheckFault.{CheckFault}
use Rattle.tl_schema.specs.declared.fault.CheckFault.TheVariants as check

-- what the checks of these causes answer
abbrev pub ChecksBy : List DeclText → List CheckCause → Result (Unit {0}) CheckFault → Type 0
ChecksBy ds cs (Ok u) = PassesBy ds cs
ChecksBy ds cs (Err (check.Refused k cause)) = RefusedBy ds cs k cause
ChecksBy ds cs (Err check.Memory) = Unit {0}

-- what the checks answer
abbrev pub PassesChecks : List DeclText → Result (Unit {0}) CheckFault → Type 0
PassesChecks ds result = ChecksBy ds causes result

-- what comes of an index that was looked for: the first declaration with the cause, if there is one
abbrev pub Found : Option ℕ → CheckCause → Result (Unit {0}) CheckFault → Type 0
Found (Some k) cause result = result ≡ Err (check.Refused k cause)
Found None cause result = result ≡ Ok tt

-- the outcome of a check that gives more
abbrev pub outcome : {X : Type 0} → Result X CheckFault → Result (Unit {0}) CheckFault
outcome (Ok x) = Ok tt
outcome (Err fault) = Err fault
