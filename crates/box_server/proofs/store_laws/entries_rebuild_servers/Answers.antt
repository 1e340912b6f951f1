use Rattle.box_server.proofs.Rebuilt.{one_more, rebuilt_sound}
use Rattle.box_server.proofs.store_laws.entries_rebuild_servers.Goals as goal

pub returns-clause-post : goal.returns-clause-post
returns-clause-post c = one_more

pub returns-clause-sound : goal.returns-clause-sound
returns-clause-sound c = rebuilt_sound
