use Rattle.box_world.proofs.AnswersBelow.{answers_below}
use Rattle.box_world.proofs.PushesBelow.{asks_below, pushes_below, receipts_below, refusals_below, warnings_below}
use Rattle.box_world.proofs.frame_laws.what_is_sent_is_short.Goals as goal

pub returns-clause-pushes : goal.returns-clause-pushes
returns-clause-pushes c = pushes_below

pub returns-clause-answers : goal.returns-clause-answers
returns-clause-answers c = answers_below

pub returns-clause-warnings : goal.returns-clause-warnings
returns-clause-warnings c = warnings_below

pub returns-clause-receipts : goal.returns-clause-receipts
returns-clause-receipts c = receipts_below

pub returns-clause-refusals : goal.returns-clause-refusals
returns-clause-refusals c = refusals_below

pub returns-clause-asks : goal.returns-clause-asks
returns-clause-asks c = asks_below
