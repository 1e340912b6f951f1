use Rattle.tl_plan.proofs.PlanFacts.{instances_are_formed}
use Rattle.tl_plan.proofs.laws.instances_are_formed.Goals as goal

pub returns : goal.returns
returns c = instances_are_formed
