use Rattle.std.proofs.Common.{◌<◌, ℕ}
use Rattle.tl_program.specs.Program.{program_text}
use Rattle.tl_schema.specs.SameName.{SameName}
use Rattle.tl_schema.proofs.SameNames.{KnowsFirst}
use Rattle.tl_schema.proofs.same_name.first_same_name.Given as goal

abbrev pub invariant-loop-k : goal.invariant-loop-k
invariant-loop-k l =
    KnowsFirst (program_text l.program) l.k l.known × ((j : ℕ) → j < l.k → ¬ SameName (program_text l.program) j)
