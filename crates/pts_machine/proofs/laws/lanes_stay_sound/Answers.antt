use Rattle.pts_machine.proofs.Kept.{sound_new, sound_loaded, sound_hear, sound_asked, sound_extend, sound_restart, sound_forget, sound_after}
use Rattle.pts_machine.proofs.laws.lanes_stay_sound.Goals as goal

pub returns-clause-new : goal.returns-clause-new
returns-clause-new g c = sound_new

pub returns-clause-load : goal.returns-clause-load
returns-clause-load g c = sound_loaded

pub returns-clause-hear : goal.returns-clause-hear
returns-clause-hear g c = sound_hear

pub returns-clause-ask : goal.returns-clause-ask
returns-clause-ask g c = sound_asked

pub returns-clause-extend : goal.returns-clause-extend
returns-clause-extend g c = sound_extend

pub returns-clause-restart : goal.returns-clause-restart
returns-clause-restart g c = sound_restart

pub returns-clause-forget : goal.returns-clause-forget
returns-clause-forget g c = sound_forget

pub returns-clause-after : goal.returns-clause-after
returns-clause-after g c = sound_after
