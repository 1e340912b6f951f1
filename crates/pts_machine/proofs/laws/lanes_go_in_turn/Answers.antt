use Rattle.pts_machine.proofs.Turns.{waits_after_a_gap, is_next_in_turn, is_held_still}
use Rattle.pts_machine.proofs.laws.lanes_go_in_turn.Goals as goal

pub returns-clause-gap : goal.returns-clause-gap
returns-clause-gap g c = waits_after_a_gap

pub returns-clause-turn : goal.returns-clause-turn
returns-clause-turn g c = is_next_in_turn

pub returns-clause-part : goal.returns-clause-part
returns-clause-part g c = is_held_still
