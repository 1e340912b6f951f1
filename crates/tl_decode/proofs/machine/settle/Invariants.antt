use Rattle.std.proofs.Common.{◌≡◌, ◌≤◌}
use Rattle.tl_types.specs.inner.Reading.{Spot}
use Rattle.tl_decode.specs.inner.Frames.{AreWell, IsWellNext, next_at, next_work, views}
use Rattle.tl_decode.proofs.machine.settle.Given as goal

abbrev pub invariant-steps : goal.invariant-steps
invariant-steps l =
    record {
      frames : AreWell l.plan l.frames.items;
      well : IsWellNext l.plan l.next;
      same : (s : Spot) → next_at l.plan (views l.plan l.fn.frames.items) l.fn.first s ≡ next_at l.plan (views l.plan l.frames.items) l.next s;
      less : next_work l.plan (views l.plan l.frames.items) l.next ≤ next_work l.plan (views l.plan l.fn.frames.items) l.fn.first;
    }

abbrev pub decreases-steps : goal.decreases-steps
decreases-steps l = next_work l.plan (views l.plan l.frames.items) l.next
