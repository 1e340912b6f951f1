use Rattle.std.proofs.Common.{◌∙◌}
use Rattle.std.proofs.lemmas.Result.{err_from_is_err_and}
use Rattle.outside.specs.declared.status.Status.TheVariants.{Refused}
use Rattle.outside.specs.Pieces.{Tells}
use Rattle.outside.proofs.Growing.{did_none}
use Rattle.outside.proofs.Piecewise.{can_tell}
use Rattle.session_commands.specs.Keep.{bad_entry_line}
use Rattle.serve_rooms.proofs.Opening.{tells_as}
use Rattle.serve_rooms.proofs.keep.tell_entry.Goals as goal

pub returns-in_err-line : goal.returns-in_err-line
returns-in_err-line g c =
    let q = err_from_is_err_and c.from_residual.result c.from_residual.ensures.1 in
    rw q.1 (did_none (Tells (bad_entry_line c.args.n) Refused) _ (can_tell (bad_entry_line c.args.n) Refused))

pub returns : goal.returns
returns g c = tells_as c.deref.result.now (bad_entry_line c.args.n) Refused _ _ _ (c.deref.ensures.value ∙ c.in_ok-line.ensures) c.tell.ensures
