use Rattle.session_commands.proofs.EachPost.{each_post}
use Rattle.session_commands.proofs.OnePost.{one_post}
use Rattle.session_commands.proofs.laws.post_has_one_answer.Goals as goal

pub returns-clause-one : goal.returns-clause-one
returns-clause-one c = one_post

pub returns-clause-there : goal.returns-clause-there
returns-clause-there c = each_post
