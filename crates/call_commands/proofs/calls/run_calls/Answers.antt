use Rattle.outside.proofs.Running.{ran}
use Rattle.call_commands.specs.CallsWork.{tells_calls}
use Rattle.call_commands.proofs.calls.run_calls.Goals as goal

pub returns : goal.returns
returns g c = ran _ (tells_calls c.args.schema.now c.args.input.now) _ _ _ c.tell_calls-done.result c.finish.result c.tell_calls-done.ensures c.finish.ensures
