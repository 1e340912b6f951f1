use Rattle.box_world.proofs.Growing.{new_clients_agree, agree_as_servers_grow}
use Rattle.box_world.proofs.laws.servers_go_on.Goals as goal

pub returns-clause-new : goal.returns-clause-new
returns-clause-new c = new_clients_agree

pub returns-clause-grow : goal.returns-clause-grow
returns-clause-grow c = agree_as_servers_grow
