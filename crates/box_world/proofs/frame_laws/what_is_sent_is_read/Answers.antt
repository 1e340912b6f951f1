use Rattle.box_world.proofs.AnswersFit.{answers_fit}
use Rattle.box_world.proofs.AsksFit.{asks_fit}
use Rattle.box_world.proofs.PushesFit.{pushes_fit, warnings_fit}
use Rattle.box_world.proofs.frame_laws.what_is_sent_is_read.Goals as goal

pub returns-clause-pushes : goal.returns-clause-pushes
returns-clause-pushes c = pushes_fit

pub returns-clause-answers : goal.returns-clause-answers
returns-clause-answers c = answers_fit

pub returns-clause-warnings : goal.returns-clause-warnings
returns-clause-warnings c = warnings_fit

pub returns-clause-asks : goal.returns-clause-asks
returns-clause-asks c = asks_fit
