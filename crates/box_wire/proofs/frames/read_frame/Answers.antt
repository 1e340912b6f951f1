use Rattle.std.proofs.lemmas.Result.{err_from_is_err_and}
use Rattle.box_wire.proofs.frames.read_frame.Goals as goal

pub returns-in_err-value-clause-reads : goal.returns-in_err-value-clause-reads
returns-in_err-value-clause-reads c =
    let q = err_from_is_err_and c.from_residual.result c.from_residual.ensures.1 in
    rw (q.1, q.2) c.in_err-value.ensures.refused

pub returns-clause-reads : goal.returns-clause-reads
returns-clause-reads c = c.frame_of_value.ensures c.args.bytes.now c.decode_frame.ensures.bytes c.in_ok-value.ensures.value
