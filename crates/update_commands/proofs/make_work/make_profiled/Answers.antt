use Rattle.outside.specs.Jobs.{making}
use Rattle.outside.proofs.Printed.{can_answer, made_printed}
use Rattle.update_commands.specs.Make.{OfMadeRun}
use Rattle.update_commands.proofs.OneMake.{each_run}
use Rattle.update_commands.specs.MakeWork.{makes_by}
use Rattle.update_commands.proofs.Profiling.{profile_made, profile_refused}
use Rattle.update_commands.proofs.RunsMade.{run_made}
use Rattle.update_commands.proofs.make_work.make_profiled.Goals as goal

pub returns-in-Ok : goal.returns-in-Ok
returns-in-Ok g c =
    let n = c.args.number in
    let k = c.args.steps in
    profile_made (makes_by n k) c.args.schema.now c.in-Ok.profile _ _ _ c.in-Ok.ensures (made_printed (OfMadeRun n k) (making c.run_text.result) _ _ _ (each_run n k) (run_made n k c.run_text.result c.run_text.ensures) c.print_made.ensures)

pub returns-in-Err : goal.returns-in-Err
returns-in-Err g c =
    let n = c.args.number in
    let k = c.args.steps in
    profile_refused (makes_by n k) c.args.schema.now c.requires.good (λ p is. let a = each_run n k in can_answer (OfMadeRun n k) a.0 a.1) c.in-Err.fault _ _ _ c.in-Err.ensures c.print_made-in-Err.ensures
