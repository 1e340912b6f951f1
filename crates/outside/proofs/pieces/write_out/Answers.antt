use Rattle.std.proofs.Common.{arith}
use Rattle.outside.proofs.Piecewise.{write_grew, put_more, put_failed, rest_long}
use Rattle.outside.proofs.pieces.write_out.Goals as goal

pub loop-at-preserved : goal.loop-at-preserved
loop-at-preserved g c = record {
  within = omega (arith, c.in-Ok.ensures.bound, rest_long c.args.bytes.now c.loop-at.at, c.loop-at.invariant.within);
  written = put_more c.args.out _ (g.H.Host.state c.loop-at.host) _ c.args.bytes.now c.loop-at.at c.in-Ok.size c.loop-at.invariant.written
      (write_grew c.args.out _ _ _ _ (omega (arith, rest_long c.args.bytes.now c.loop-at.at, c.loop-at-test.true)) c.in-Ok.ensures.past);
}

pub returns-in-Err : goal.returns-in-Err
returns-in-Err g c = put_failed c.args.out _ (g.H.Host.state c.loop-at.host) _ c.args.bytes.now c.loop-at.at (omega (arith, c.loop-at-test.true)) c.loop-at.invariant.written
    (write_grew c.args.out _ _ _ _ (omega (arith, rest_long c.args.bytes.now c.loop-at.at, c.loop-at-test.true)) c.in-Err.ensures.past)
