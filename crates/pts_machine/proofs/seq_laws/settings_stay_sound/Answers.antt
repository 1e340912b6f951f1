use Rattle.pts_machine.proofs.StateSteps.{sound_new, sound_loaded, sound_hear, sound_asked, sound_again, sound_overlaid, sound_forgotten}
use Rattle.pts_machine.proofs.seq_laws.settings_stay_sound.Goals as goal

pub returns-clause-new : goal.returns-clause-new
returns-clause-new c = sound_new

pub returns-clause-load : goal.returns-clause-load
returns-clause-load c = sound_loaded

pub returns-clause-hear : goal.returns-clause-hear
returns-clause-hear c = sound_hear

pub returns-clause-ask : goal.returns-clause-ask
returns-clause-ask c = sound_asked

pub returns-clause-again : goal.returns-clause-again
returns-clause-again c = sound_again

pub returns-clause-overlay : goal.returns-clause-overlay
returns-clause-overlay c = sound_overlaid

pub returns-clause-forget : goal.returns-clause-forget
returns-clause-forget c = sound_forgotten
