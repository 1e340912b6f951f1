use Rattle.std.proofs.Common.{Ok}
use Rattle.tl_decode.specs.declared.stack.Next.TheVariants as next
use Rattle.tl_decode.specs.declared.stack.Advance.TheVariants as step
use Rattle.tl_decode.specs.declared.stack.Found.TheVariants as found
use Rattle.tl_decode.proofs.InPlace.{steps_then}
use Rattle.tl_decode.proofs.opening.onward.Goals as goal

pub returns-in-Some : goal.returns-in-Some
returns-in-Some c = λ old new v s. steps_then c.args.plan.now old new new (next.Close v) (next.Open c.args.of) (Ok (step.Stops (found.Wants c.in-Some.wanted))) s (c.in-Some.ensures new s.0.frames)
