use Rattle.std.proofs.Common.{◌∙◌}
use Rattle.tl_calls.proofs.Judged.{plain_more}
use Rattle.tl_calls.proofs.judging.plain_traits.Goals as goal

pub loop-preserved : goal.loop-preserved
loop-preserved c = c.in_ok-push.ensures.items ∙ plain_more c.loop.all.items c.loop.counter c.loop.invariant
