use Rattle.std.proofs.Common.{ap, arith, length}
use Rattle.tl_encode.specs.declared.frames.WalkFrame.{WalkFrame}
use Rattle.tl_encode.proofs.Tops.{top_short}
use Rattle.tl_encode.proofs.frames.Stack.next_at.Goals as goal

pub overflow_add-frames : goal.overflow_add-frames
overflow_add-frames c =
    let l = c.loop-self.self in
    let few = top_short l.frames l.height c.index-frames-top-in-loop-self.result c.loop-self-test.true (omega (arith, c.loop-self.invariant.0.0, c.loop-self.invariant.0.1)) c.index-frames-top-in-loop-self.is c.loop-self.invariant.1 in
    omega (arith, few, ap (λ (f : WalkFrame). length f.values.now) c.index-frames-top-in-loop-self.is, c.if-at-frames.true)
