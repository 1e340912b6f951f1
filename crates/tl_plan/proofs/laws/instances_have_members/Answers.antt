use Rattle.tl_plan.proofs.PlanFacts.{instances_have_members}
use Rattle.tl_plan.proofs.laws.instances_have_members.Goals as goal

pub returns : goal.returns
returns c = instances_have_members
