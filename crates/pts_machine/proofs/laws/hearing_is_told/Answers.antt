use Rattle.pts_machine.proofs.Kept.{hear_is, hears}
use Rattle.pts_machine.proofs.laws.hearing_is_told.Goals as goal

pub returns-clause-one : goal.returns-clause-one
returns-clause-one g c = λ t u start end item seen. hear_is t start end item seen u

pub returns-clause-each : goal.returns-clause-each
returns-clause-each g c = hears
