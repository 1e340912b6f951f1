use Rattle.update_sessions.proofs.Waiting.{never_both_wait, requests_are_never_lost}
use Rattle.update_sessions.proofs.laws.conversations_never_wait.Goals as goal

pub returns-clause-lost : goal.returns-clause-lost
returns-clause-lost c = requests_are_never_lost

pub returns-clause-wait : goal.returns-clause-wait
returns-clause-wait c = never_both_wait
