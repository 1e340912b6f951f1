use Rattle.pts_machine.proofs.Agreements.{agree_new, agree_loaded, agree_hear, agree_asked, agree_again, agree_over, agree_forgotten, agree_grows}
use Rattle.pts_machine.proofs.seq_laws.settings_agree.Goals as goal

pub returns-clause-new : goal.returns-clause-new
returns-clause-new c = agree_new

pub returns-clause-load : goal.returns-clause-load
returns-clause-load c = agree_loaded

pub returns-clause-hear : goal.returns-clause-hear
returns-clause-hear c = agree_hear

pub returns-clause-ask : goal.returns-clause-ask
returns-clause-ask c = agree_asked

pub returns-clause-again : goal.returns-clause-again
returns-clause-again c = agree_again

pub returns-clause-overlay : goal.returns-clause-overlay
returns-clause-overlay c = agree_over

pub returns-clause-forget : goal.returns-clause-forget
returns-clause-forget c = agree_forgotten

pub returns-clause-grows : goal.returns-clause-grows
returns-clause-grows c = agree_grows
