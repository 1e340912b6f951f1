use Rattle.std.proofs.Common.{arith}
use Rattle.tl_layers.specs.inner.FieldBreaks.{HasCause}
use Rattle.tl_layers.proofs.FirstOnes.{none_more, none_has}
use Rattle.tl_layers.proofs.field_breaks.first.Goals as goal

pub loop-k-preserved : goal.loop-k-preserved
loop-k-preserved c = none_more (HasCause c.args.pair.now c.args.olds.now c.args.news.now c.args.cause) c.loop-k.k c.loop-k.invariant c.has.result c.has.ensures c.if-has.false

pub returns-then-has : goal.returns-then-has
returns-then-has c = (c.has.ensures.0 c.if-has.true, c.loop-k.invariant)

pub returns : goal.returns
returns c = none_has c.args.pair.now c.args.olds.now c.args.news.now c.args.cause c.loop-k.k (omega (arith, c.loop-k-test.false, c.count_for-count.ensures)) c.loop-k.invariant
