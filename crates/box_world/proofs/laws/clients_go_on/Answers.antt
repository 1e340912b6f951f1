use Rattle.box_world.proofs.GoingOn.{agree_ticks, agree_wakes, agree_watches, agree_restarts, still_wakes, still_watches, still_restarts}
use Rattle.box_world.proofs.laws.clients_go_on.Goals as goal

pub returns-clause-ticks : goal.returns-clause-ticks
returns-clause-ticks c = agree_ticks

pub returns-clause-wakes : goal.returns-clause-wakes
returns-clause-wakes c = agree_wakes

pub returns-clause-watches : goal.returns-clause-watches
returns-clause-watches c = agree_watches

pub returns-clause-restarts : goal.returns-clause-restarts
returns-clause-restarts c = agree_restarts

pub returns-clause-wakes_still : goal.returns-clause-wakes_still
returns-clause-wakes_still c = still_wakes

pub returns-clause-watches_still : goal.returns-clause-watches_still
returns-clause-watches_still c = still_watches

pub returns-clause-restarts_still : goal.returns-clause-restarts_still
returns-clause-restarts_still c = still_restarts
