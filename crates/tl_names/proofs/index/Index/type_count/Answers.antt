use Rattle.std.proofs.Common.{arith}
use Rattle.tl_program.specs.Program.{program_text}
use Rattle.tl_names.proofs.TypeNumbers.{few_types}
use Rattle.tl_names.proofs.index.Index.type_count.Goals as goal

pub overflow_cast-result : goal.overflow_cast-result
overflow_cast-result c =
    omega (arith, c.len.ensures, c.self.inside.families.ok.0, c.self.invariant.made.count, few_types (program_text c.self.inside.program.value), c.self.invariant.few)
