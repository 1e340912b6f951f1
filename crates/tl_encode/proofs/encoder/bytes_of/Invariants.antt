use Rattle.tl_types.specs.Seen.{view}
use Rattle.tl_encode.specs.inner.Frames.{EachIsCounted, HasLevels, frames_of}
use Rattle.tl_encode.specs.inner.Walks.{Walks, whole_weight}
use Rattle.tl_encode.proofs.encoder.bytes_of.Given as goal

abbrev pub invariant-loop-next : goal.invariant-loop-next
invariant-loop-next l = HasLevels l.stack × EachIsCounted (frames_of l.stack) × Walks l.plan l.of (view l.value) l.bytes.items l.next (frames_of l.stack)

abbrev pub decreases-loop-next : goal.decreases-loop-next
decreases-loop-next l = whole_weight l.next (frames_of l.stack)
