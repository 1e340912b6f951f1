use Rattle.std.proofs.Common.{◌-◌, true, refl, arith}
use Rattle.std.proofs.lemmas.Result.{err_from_is_err_and}
use Rattle.tl_base.proofs.Texts.{stopped}
use Rattle.tl_base.proofs.source.take_up_to.Goals as goal

pub returns-in_err-take_piece-clause-bytes : goal.returns-in_err-take_piece-clause-bytes
returns-in_err-take_piece-clause-bytes g c =
    let p = err_from_is_err_and c.from_residual.result c.from_residual.ensures.1 in
    let s = g.S.Source in
    rw (p.1, p.2) (stopped (s.state c.args.from.now).left (s.state c.loop-from.from).left (s.state c.take_piece.new.from).left c.loop-from.text c.take_piece.new.text c.args.most (c.args.most - c.len-in-loop-from.result) c.in_err-take_piece.field-0.0
    c.loop-from.invariant.bytes (omega (arith, c.len-in-loop-from.ensures, c.loop-from.invariant.few)) (omega (arith, c.loop-from-test.true, c.len.ensures, c.len-in-loop-from.ensures)) (c.in_err-take_piece.ensures.kept (refl {a = true})) c.in_err-take_piece.ensures.bytes)
