use Rattle.tl_plan.proofs.RootFacts.{roots_have_instances}
use Rattle.tl_plan.proofs.laws.roots_have_instances.Goals as goal

pub returns : goal.returns
returns c = roots_have_instances
