use Rattle.box_server.proofs.NewServers.{sound_new}
use Rattle.box_server.proofs.Soundness.{post_sound, dated_sound}
use Rattle.box_server.proofs.laws.servers_stay_sound.Goals as goal

pub returns-clause-new : goal.returns-clause-new
returns-clause-new c = sound_new

pub returns-clause-date : goal.returns-clause-date
returns-clause-date c = dated_sound

pub returns-clause-post : goal.returns-clause-post
returns-clause-post c = post_sound
