use Rattle.std.proofs.Common.{◌∙◌, arith}
use Rattle.pts_machine.proofs.Maps.{same_from}
use Rattle.pts_machine.proofs.Takings.{stand}
use Rattle.pts_machine.proofs.chains.settle.Goals as goal

pub returns-clause-events : goal.returns-clause-events
returns-clause-events g c = (stand _ _ _ c.follow-at.ensures.took).items

pub returns-clause-held : goal.returns-clause-held
returns-clause-held g c = c.drop_to.ensures.rest ∙ same_from c.follow-at.result _ _ c.follow-at.ensures.held

pub returns-clause-sum : goal.returns-clause-sum
returns-clause-sum g c = omega (arith, (stand _ _ _ c.follow-at.ensures.took).len, c.follow-at.ensures.number, c.drop_to.ensures.number)

pub returns-clause-capacity : goal.returns-clause-capacity
returns-clause-capacity g c = (stand _ _ _ c.follow-at.ensures.took).capacity
