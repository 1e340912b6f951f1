use Rattle.tl_decode.proofs.ItemSteps.{takes_plain}
use Rattle.tl_decode.proofs.taking.take.Goals as goal

pub returns-in-Plain : goal.returns-in-Plain
returns-in-Plain c = rw c.in-Plain.is (takes_plain c.args.plan.now c.args.wanted c.in-Plain.value)
