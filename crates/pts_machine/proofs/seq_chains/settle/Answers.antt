use Rattle.std.proofs.Common.{◌∙◌, arith}
use Rattle.pts_machine.proofs.Maps.{same_from}
use Rattle.pts_machine.proofs.Stores.{are_applied}
use Rattle.pts_machine.proofs.seq_chains.settle.Goals as goal

pub returns-clause-values : goal.returns-clause-values
returns-clause-values c = (are_applied _ _ _ c.follow-at.ensures.took).values

pub returns-clause-date : goal.returns-clause-date
returns-clause-date c = (are_applied _ _ _ c.follow-at.ensures.took).date

pub returns-clause-held : goal.returns-clause-held
returns-clause-held c = c.drop_below-store.ensures.held ∙ same_from c.follow-at.result _ _ c.follow-at.ensures.held

pub returns-clause-less : goal.returns-clause-less
returns-clause-less c = omega (arith, (are_applied _ _ _ c.follow-at.ensures.took).less, c.drop_below-store.ensures.less)

pub returns-clause-few : goal.returns-clause-few
returns-clause-few c = omega (arith, (are_applied _ _ _ c.follow-at.ensures.took).few, c.drop_below-store.ensures.less)

pub returns-clause-room : goal.returns-clause-room
returns-clause-room c = omega (arith, (are_applied _ _ _ c.follow-at.ensures.took).room, c.drop_below-store.ensures.less)
