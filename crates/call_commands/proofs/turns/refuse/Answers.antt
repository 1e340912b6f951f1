use Rattle.std.proofs.lemmas.Result.{err_from_is_err_and}
use Rattle.call_commands.proofs.turns.refuse.Goals as goal

pub returns-in_err-status : goal.returns-in_err-status
returns-in_err-status g c =
    let p = err_from_is_err_and c.from_residual.result c.from_residual.ensures.1 in
    rw p.1 c.in_err-status.ensures

pub returns : goal.returns
returns g c = c.in_ok-status.ensures
