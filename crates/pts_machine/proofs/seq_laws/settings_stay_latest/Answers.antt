use Rattle.pts_machine.proofs.Stays.{latest_hear, latest_over}
use Rattle.pts_machine.proofs.Growing.{latest_is, latest_one, latest_new, latest_grows}
use Rattle.pts_machine.proofs.seq_laws.settings_stay_latest.Goals as goal

pub returns-clause-is : goal.returns-clause-is
returns-clause-is c = latest_is

pub returns-clause-one : goal.returns-clause-one
returns-clause-one c = latest_one

pub returns-clause-new : goal.returns-clause-new
returns-clause-new c = latest_new

pub returns-clause-hear : goal.returns-clause-hear
returns-clause-hear c = latest_hear

pub returns-clause-overlay : goal.returns-clause-overlay
returns-clause-overlay c = λ L b settings seq date le h. latest_over L b settings seq date h le

pub returns-clause-grows : goal.returns-clause-grows
returns-clause-grows c = latest_grows
