use Rattle.box_server.proofs.LastParts.{last_parts_reach, known_ids_post_nothing}
use Rattle.box_server.proofs.laws.answers_are_exact.Goals as goal

pub returns-clause-last : goal.returns-clause-last
returns-clause-last c = last_parts_reach

pub returns-clause-known : goal.returns-clause-known
returns-clause-known c = known_ids_post_nothing
