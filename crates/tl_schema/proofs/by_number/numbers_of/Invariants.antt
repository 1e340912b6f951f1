use Rattle.tl_program.specs.Program.{program_text}
use Rattle.tl_schema.proofs.NumberedIndexes.{AreNumbersSoFar}
use Rattle.tl_schema.proofs.by_number.numbers_of.Given as goal

abbrev pub invariant-loop-at : goal.invariant-loop-at
invariant-loop-at l = AreNumbersSoFar (program_text l.program) l.at l.numbers.entries
