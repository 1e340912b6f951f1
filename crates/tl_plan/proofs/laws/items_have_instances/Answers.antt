use Rattle.tl_plan.proofs.PlanFacts.{items_have_instances}
use Rattle.tl_plan.proofs.laws.items_have_instances.Goals as goal

pub returns : goal.returns
returns c = items_have_instances
