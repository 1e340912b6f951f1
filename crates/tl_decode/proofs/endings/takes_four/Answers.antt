use Rattle.std.proofs.Common.{true≢false}
use Rattle.tl_decode.proofs.TakesFour.{kind_wide}
use Rattle.tl_decode.proofs.endings.takes_four.Goals as goal

pub returns-in_default : goal.returns-in_default
returns-in_default c = record {
  takes = λ e T is. kind_wide c.args.plan.now c.root.result c.instance.result.now c.instance.ensures.shows T (rw c.root.ensures.root is) c.in_default.not-Flag c.in_default.not-Bare;
  only = λ e. absurd (true≢false e);
}
