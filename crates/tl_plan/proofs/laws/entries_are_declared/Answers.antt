use Rattle.tl_plan.proofs.EntryLists.{entries_are_declared}
use Rattle.tl_plan.proofs.laws.entries_are_declared.Goals as goal

pub returns : goal.returns
returns c = entries_are_declared
