use Rattle.run_laws.proofs.serving.AnySession.{all_answer, next_answers}
use Rattle.run_laws.proofs.laws.all_sessions_answer.Goals as goal

pub returns-clause-next : goal.returns-clause-next
returns-clause-next c = next_answers

pub returns-clause-all : goal.returns-clause-all
returns-clause-all c = all_answer
