use Rattle.box_server.proofs.Rebuilt.{known_after, refused_adds_nothing}
use Rattle.box_server.proofs.store_laws.only_new_posts_add.Goals as goal

pub returns-clause-refused : goal.returns-clause-refused
returns-clause-refused c = refused_adds_nothing

pub returns-clause-new : goal.returns-clause-new
returns-clause-new c = known_after
