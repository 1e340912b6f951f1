-- A channel that begins anew.
use Rattle.std.proofs.Common.{◌≡◌, ℕ, List, Ok, refl, ap}
use Rattle.box_events.specs.Events.{EventView, count_of}
use Rattle.pts_machine.specs.States.{LaneState}
use Rattle.pts_machine.specs.Steps.{settle, extend, restart_at}
use Rattle.channel_box.specs.Laws.{LeavesNoEvents}

anew : (t : LaneState EventView) (events : List EventView) (pts : ℕ) → restart_at count_of (record t { events = events }) pts ≡ restart_at count_of t pts
unfolding restart_at
anew t events pts = refl

begins_at : (t : LaneState EventView) (pts : ℕ) → (restart_at count_of t pts).restart ≡ pts
unfolding restart_at extend settle
begins_at t pts = refl

pub leaves_no_events : LeavesNoEvents
leaves_no_events = record {
  same = λ c events pts recent last. ap (λ (t : LaneState EventView). Ok (record c { lane = t; recent = recent })) (anew c.lane events pts);
  begins = λ c pts recent last. (record c { lane = restart_at count_of c.lane pts; recent = recent }, refl, begins_at c.lane pts);
}
