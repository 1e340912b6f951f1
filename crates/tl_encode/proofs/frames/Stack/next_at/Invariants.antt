use Rattle.std.proofs.Common.{◌≡◌}
use Rattle.tl_encode.specs.inner.Frames.{EachIsCounted, HasLevels, frames_of, rested}
use Rattle.tl_encode.proofs.frames.Stack.next_at.Given as goal

abbrev pub invariant-loop-self : goal.invariant-loop-self
invariant-loop-self l = HasLevels l.self × EachIsCounted (frames_of l.self) × (rested (frames_of l.initial.self) ≡ rested (frames_of l.self))

abbrev pub decreases-loop-self : goal.decreases-loop-self
decreases-loop-self l = l.self.height
