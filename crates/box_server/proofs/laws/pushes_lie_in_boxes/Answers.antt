use Rattle.box_server.proofs.Growths.{updates_lie, settings_posted, settings_pushed, last_posted, lies_grow}
use Rattle.box_server.proofs.laws.pushes_lie_in_boxes.Goals as goal

pub returns-clause-updates : goal.returns-clause-updates
returns-clause-updates c = updates_lie

pub returns-clause-settings : goal.returns-clause-settings
returns-clause-settings c = settings_posted

pub returns-clause-pushed : goal.returns-clause-pushed
returns-clause-pushed c = settings_pushed

pub returns-clause-numbers : goal.returns-clause-numbers
returns-clause-numbers c = last_posted

pub returns-clause-grows : goal.returns-clause-grows
returns-clause-grows c = lies_grow
