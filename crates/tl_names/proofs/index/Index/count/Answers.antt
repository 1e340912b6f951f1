use Rattle.std.proofs.Common.{arith, length, ap}
use Rattle.std.proofs.lemmas.List.{length-map}
use Rattle.tl_program.specs.Program.{DeclText, program_text}
use Rattle.tl_names.proofs.index.Index.count.Goals as goal

pub overflow_cast-result : goal.overflow_cast-result
overflow_cast-result c =
    omega (arith, c.len.ensures, c.self.inside.vars.ok.0, ap length c.self.invariant.counted, length-map (program_text c.self.inside.program.value) (λ (d : DeclText). length d.vars), c.self.invariant.few)
