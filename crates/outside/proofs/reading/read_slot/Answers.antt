use Rattle.std.proofs.lemmas.Result.{err_from_is_err_and}
use Rattle.outside.specs.Pieces.{text_of}
use Rattle.outside.proofs.Growing.{can_end, did_stop}
use Rattle.outside.proofs.reading.read_slot.Goals as goal

pub returns-in_err-text : goal.returns-in_err-text
returns-in_err-text g c =
    let p = err_from_is_err_and c.from_residual.result c.from_residual.ensures.1 in
    rw p.1 (did_stop _ _ _ _ (λ taken. can_end (text_of taken)) c.in_err-text.ensures)
