use Rattle.tl_decode.specs.declared.stack.Next.TheVariants as next
use Rattle.tl_decode.proofs.InPlace.{settles_then}
use Rattle.tl_decode.proofs.machine.go_on.Goals as goal

pub returns-in-Value : goal.returns-in-Value
returns-in-Value c = λ old v g.
    settles_then c.args.plan.now old c.args.frames.now.items c.settle.new.frames.items (next.Close v) (next.Open c.in-Value.of) c.settle.result (rw c.in-Value.is at g) c.settle.ensures

pub returns-in-Rest : goal.returns-in-Rest
returns-in-Rest c = λ old v g.
    settles_then c.args.plan.now old c.take_last-top.new.self.items c.settle-in-Rest.new.frames.items (next.Close v) (next.Part c.take_last-top.result) c.settle-in-Rest.result ((rw c.in-Rest.is at g) c.take_last-top.new.self.items c.take_last-top.result c.take_last-top.ensures.items) c.settle-in-Rest.ensures
