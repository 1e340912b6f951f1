use Rattle.std.proofs.Common.{subst, sym}
use Rattle.tl_encode.specs.inner.Frames.{frames_of}
use Rattle.tl_encode.specs.inner.Walks.{Enters}
use Rattle.tl_encode.proofs.Entering.{enter_some, level_left}
use Rattle.tl_encode.proofs.encoder.enter.Goals as goal

pub push-requires-clause-few : goal.push-requires-clause-few
push-requires-clause-few c = level_left c.args.plan.now c.args.part (frames_of c.args.stack.now) c.requires.fits c.in-Some.frame c.in-Some.ensures

pub returns-in-Some-clause-enters : goal.returns-in-Some-clause-enters
returns-in-Some-clause-enters c = λ all.
    subst (Enters c.args.plan.now c.args.part (frames_of c.args.stack.now)) (sym c.push.ensures.frames)
    (enter_some c.args.plan.now c.args.part (frames_of c.args.stack.now) c.requires.fits c.in-Some.frame c.in-Some.ensures all)
