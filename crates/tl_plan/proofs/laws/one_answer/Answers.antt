use Rattle.tl_plan.proofs.PlanFacts.{one_answer}
use Rattle.tl_plan.proofs.laws.one_answer.Goals as goal

pub returns : goal.returns
returns c = one_answer
