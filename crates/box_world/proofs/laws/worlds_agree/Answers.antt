use Rattle.box_server.proofs.Carrying.{changed_overlays}
use Rattle.box_world.proofs.Numbers.{numbers_stay_below}
use Rattle.box_world.proofs.OneMore.{next_stays_below}
use Rattle.box_world.proofs.Ranges.{packets_in_range}
use Rattle.box_world.proofs.Reaching.{clients_agree, replies_are_taken, clients_catch_up, channels_catch_up, packets_fit, servers_keep_order, worlds_grow}
use Rattle.box_world.proofs.laws.worlds_agree.Goals as goal

pub returns-clause-agree : goal.returns-clause-agree
returns-clause-agree c = clients_agree changed_overlays

pub returns-clause-taken : goal.returns-clause-taken
returns-clause-taken c = replies_are_taken changed_overlays

pub returns-clause-catch_up : goal.returns-clause-catch_up
returns-clause-catch_up c = clients_catch_up changed_overlays

pub returns-clause-channels_catch_up : goal.returns-clause-channels_catch_up
returns-clause-channels_catch_up c = channels_catch_up changed_overlays

pub returns-clause-packets : goal.returns-clause-packets
returns-clause-packets c = packets_fit changed_overlays

pub returns-clause-numbers : goal.returns-clause-numbers
returns-clause-numbers c = numbers_stay_below changed_overlays

pub returns-clause-next : goal.returns-clause-next
returns-clause-next c = next_stays_below

pub returns-clause-ranges : goal.returns-clause-ranges
returns-clause-ranges c = packets_in_range changed_overlays

pub returns-clause-order : goal.returns-clause-order
returns-clause-order c = servers_keep_order changed_overlays

pub returns-clause-grow : goal.returns-clause-grow
returns-clause-grow c = worlds_grow changed_overlays
