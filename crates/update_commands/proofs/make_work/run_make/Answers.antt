use Rattle.outside.proofs.Running.{ran}
use Rattle.update_commands.specs.MakeWork.{makes}
use Rattle.update_commands.proofs.make_work.run_make.Goals as goal

pub returns : goal.returns
returns g c = ran _ (makes c.args.schema.now c.args.number c.args.steps) _ _ _ c.make_run-done.result c.finish.result c.make_run-done.ensures c.finish.ensures
