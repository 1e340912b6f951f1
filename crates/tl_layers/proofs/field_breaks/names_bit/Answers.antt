use Rattle.std.proofs.Common.{true≢false, sym, arith}
use Rattle.tl_schema.specs.Seen.{slot}
use Rattle.tl_layers.proofs.FirstOnes.{no_bit_more, no_bit_at_all}
use Rattle.tl_layers.proofs.field_breaks.names_bit.Goals as goal

pub loop-i-preserved : goal.loop-i-preserved
loop-i-preserved c = no_bit_more c.args.olds.now c.args.k c.args.bit c.loop-i.i (slot c.at.result.now) c.at.ensures c.is_bit.result c.is_bit.ensures c.if-is_bit.false c.loop-i.invariant

pub returns : goal.returns
returns c = (λ h. absurd (true≢false (sym h)), λ n. absurd (no_bit_at_all c.args.olds.now c.args.k c.args.bit c.loop-i.i (omega (arith, c.loop-i-test.false, c.count-i-end.ensures)) c.loop-i.invariant n))
