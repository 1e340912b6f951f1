use Rattle.pts_machine.proofs.Growing.{within_of}
use Rattle.pts_machine.proofs.Dates.{since_hear, since_over, since_grows}
use Rattle.pts_machine.proofs.seq_laws.settings_stay_since.Goals as goal

pub returns-clause-within : goal.returns-clause-within
returns-clause-within c = within_of

pub returns-clause-hear : goal.returns-clause-hear
returns-clause-hear c = since_hear

pub returns-clause-overlay : goal.returns-clause-overlay
returns-clause-overlay c = since_over

pub returns-clause-grows : goal.returns-clause-grows
returns-clause-grows c = since_grows
