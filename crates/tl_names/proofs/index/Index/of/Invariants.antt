use Rattle.std.proofs.Common.{take}
use Rattle.tl_program.specs.Program.{program_text}
use Rattle.tl_names.specs.inner.Indexed.{IsIndex}
use Rattle.tl_names.proofs.index.Index.of.Given as goal

abbrev pub invariant-loop-at : goal.invariant-loop-at
invariant-loop-at l = IsIndex (take l.at (program_text l.program)) l.names l.types l.families.items l.vars.items
