use Rattle.update_replay.proofs.MadeStepping.{new_stands, run_ends, run_stops}
use Rattle.update_replay.proofs.making.made_run.Goals as goal

pub make_steps-requires-clause-new : goal.make_steps-requires-clause-new
make_steps-requires-clause-new c = new_stands c.in_ok-world.world _ c.in_ok-world.ensures

pub returns-in_err-make_steps : goal.returns-in_err-make_steps
returns-in_err-make_steps c = run_stops c.args.number c.args.steps c.make_steps.new.world c.in_err-make_steps.field-0.0 c.from_residual-in_err-make_steps.result c.in_err-make_steps.ensures c.from_residual-in_err-make_steps.ensures.1

pub returns : goal.returns
returns c = run_ends c.args.number c.args.steps c.make_steps.new.world c.in_ok-text.text c.requires.some c.in_ok-make_steps.ensures c.in_ok-text.ensures
