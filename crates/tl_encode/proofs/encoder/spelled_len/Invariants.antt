use Rattle.std.proofs.Common.{◌≡◌, ◌-◌, ◌<◌, ◌^◌, ℕ, List, length, min}
use Rattle.tl_types.specs.Seen.{view}
use Rattle.tl_encode.specs.inner.Frames.{EachIsCounted, HasLevels, frames_of}
use Rattle.tl_encode.specs.inner.Walks.{Walks, whole_weight}
use Rattle.tl_encode.proofs.encoder.spelled_len.Given as goal

abbrev pub invariant-loop-next : goal.invariant-loop-next
invariant-loop-next l =
    HasLevels l.stack × EachIsCounted (frames_of l.stack) × (l.of < length l.plan.instances)
    × ((put : List ℕ) × Walks l.plan l.of (view l.value) put l.next (frames_of l.stack) × (l.len ≡ min (length put) (2 ^ 64 - 1)))

abbrev pub decreases-loop-next : goal.decreases-loop-next
decreases-loop-next l = whole_weight l.next (frames_of l.stack)
