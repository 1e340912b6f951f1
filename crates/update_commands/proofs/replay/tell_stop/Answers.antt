use Rattle.std.proofs.Common.{Some, ap, refl, sym, ◌∙◌}
use Rattle.std.proofs.lemmas.Result.{err_from_is_err_and}
use Rattle.update_commands.proofs.replay.tell_stop.Goals as goal

pub returns-in_err-line : goal.returns-in_err-line
returns-in_err-line g c =
    let p = err_from_is_err_and c.from_residual.result c.from_residual.ensures.1 in
    rw p.1 refl

pub returns : goal.returns
returns g c = (c.deref.result.now, c.in_ok-line.ensures ∙ ap Some (sym c.deref.ensures.value), c.tell.ensures)
