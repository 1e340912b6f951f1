use Rattle.std.proofs.Common.{arith}
use Rattle.tl_decode.proofs.ItemSteps.{takes_count, takes_too_many}
use Rattle.tl_decode.proofs.taking.take_count.Goals as goal

pub returns-then-word-ge2147483648 : goal.returns-then-word-ge2147483648
returns-then-word-ge2147483648 c = takes_too_many c.args.plan.now c.args.item c.args.word (omega arith)

pub returns : goal.returns
returns c = takes_count c.args.plan.now c.args.item c.args.word c.new.result (omega arith) c.new.ensures.items c.requires
