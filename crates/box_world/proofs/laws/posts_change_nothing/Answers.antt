use Rattle.box_world.proofs.Reaching.{known_posts, refused_posts}
use Rattle.box_world.proofs.laws.posts_change_nothing.Goals as goal

pub returns-clause-known : goal.returns-clause-known
returns-clause-known c = known_posts

pub returns-clause-refused : goal.returns-clause-refused
returns-clause-refused c = refused_posts
