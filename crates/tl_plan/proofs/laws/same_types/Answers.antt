use Rattle.tl_plan.proofs.SameTypes.{same_types}
use Rattle.tl_plan.proofs.laws.same_types.Goals as goal

pub returns : goal.returns
returns c = same_types
