use Rattle.headline.proofs.Ending.{sessions_end}
use Rattle.headline.proofs.InOrder.{sessions_end_in_order}
use Rattle.headline.proofs.laws.sessions_end.Goals as goal

pub returns-clause-some : goal.returns-clause-some
returns-clause-some c = sessions_end

pub returns-clause-in_order : goal.returns-clause-in_order
returns-clause-in_order c = sessions_end_in_order
