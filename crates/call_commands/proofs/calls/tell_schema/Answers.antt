use Rattle.std.proofs.lemmas.Result.{err_from_is_err_and}
use Rattle.outside.proofs.Growing.{did_none}
use Rattle.call_commands.specs.CallsWork.{OfInput}
use Rattle.call_commands.proofs.Going.{can_input}
use Rattle.call_commands.proofs.calls.tell_schema.Goals as goal

pub returns-in_err-printer : goal.returns-in_err-printer
returns-in_err-printer g c =
    let p = err_from_is_err_and c.from_residual.result c.from_residual.ensures.1 in
    rw p.1 (did_none (OfInput c.args.input.now c.args.schema.now) _ (can_input c.args.input.now c.args.schema.now))
