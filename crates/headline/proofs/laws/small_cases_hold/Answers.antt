use Rattle.headline.proofs.Instances.{clients_have_boxes, streams_are_sent, stretches_are_exact}
use Rattle.headline.proofs.laws.small_cases_hold.Goals as goal

pub returns-clause-stretches : goal.returns-clause-stretches
returns-clause-stretches c = stretches_are_exact

pub returns-clause-clients : goal.returns-clause-clients
returns-clause-clients c = clients_have_boxes

pub returns-clause-streams : goal.returns-clause-streams
returns-clause-streams c = streams_are_sent
