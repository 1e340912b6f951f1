use Rattle.std.proofs.Common.{Ok, ◌∙◌}
use Rattle.std.proofs.lemmas.Result.{err_from_is_err_and}
use Rattle.serve_rooms.specs.Telling.{TellsEnd}
use Rattle.outside.proofs.Growing.{did_none}
use Rattle.serve_rooms.proofs.ToldEnds.{can_tell_end, frames_told, frames_untold}
use Rattle.serve_rooms.proofs.telling.tell_frames.Goals as goal

pub returns-in_err-line : goal.returns-in_err-line
returns-in_err-line g c =
    let q = err_from_is_err_and c.from_residual.result c.from_residual.ensures.1 in
    rw q.1 (did_none (TellsEnd c.args.number c.args.tally (Ok c.args.frames)) _ (can_tell_end c.args.number c.args.tally (Ok c.args.frames)))

pub returns-in-Ok : goal.returns-in-Ok
returns-in-Ok g c = frames_told c.args.number c.args.frames c.args.tally c.deref.result.now (c.deref.ensures.value ∙ c.in_ok-line.ensures) _ _ c.in-Ok.ensures

pub returns : goal.returns
returns g c = frames_untold c.args.number c.args.frames c.args.tally c.deref.result.now (c.deref.ensures.value ∙ c.in_ok-line.ensures) _ _ _ _ c.in-Err.ensures c.tell.ensures
