use Rattle.std.proofs.Common.{◌≡◌, List, ℕ, false, rules, sym, subst}
use Rattle.tl_program.specs.Program.{program_text}
use Rattle.tl_print.specs.Printed.{ReadsBack}
use Rattle.tl_print.specs.Written.{written_program}
use Rattle.tl_print.proofs.PrintedProgram.{reads_back}
use Rattle.tl_print.proofs.printing.print.Goals as goal

pub returns-clause-reads : goal.returns-clause-reads
returns-clause-reads c =
    let e : c.from_vec.result ≡ written_program false (program_text c.args.program.now) = search rules in
    subst (λ (b : List ℕ). ReadsBack b (program_text c.args.program.now)) (sym e) (reads_back (program_text c.args.program.now) c.requires)
