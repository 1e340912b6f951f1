use Rattle.std.proofs.Common.{◌<◌, ℕ}
use Rattle.tl_program.specs.Program.{program_text}
use Rattle.tl_schema.specs.SameNumber.{SameNumber}
use Rattle.tl_schema.proofs.KnownNumbers.{KnowsNumbers}
use Rattle.tl_schema.proofs.same_number.first_same_number.Given as goal

abbrev pub invariant-loop-k : goal.invariant-loop-k
invariant-loop-k l =
    KnowsNumbers (program_text l.program) l.k l.numbers × ((j : ℕ) → j < l.k → ¬ SameNumber (program_text l.program) j)
