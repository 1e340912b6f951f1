use Rattle.box_wire.proofs.Spellings.{spelling_is}
use Rattle.box_wire.proofs.wholes.bytes_of.Goals as goal

pub returns-in-Ok : goal.returns-in-Ok
returns-in-Ok c = λ T is formed.
    spelling_is c.args.plan.now.schema c.spelling_of.ensures.sound.schema T formed _ _ (c.in-Ok.ensures.fits T is) (λ b s. c.in-Ok.ensures.spelled T b is s)
