-- How the steps move a lane: its mode, its restart, and its position.
use Rattle.std.proofs.Common.{◌≡◌, ℕ, ◌+◌, ◌<◌, ◌≤◌, ◌++◌, List, [], ◌∷◌, Bool, true, false, ap, arith}
use Rattle.std.specs.List.{sum_by}
use Rattle.std.specs.FinMap.{len}
use Rattle.pts_machine.specs.Holding.{Items, from}
use Rattle.pts_machine.proofs.Maps.{from_some}
use Rattle.pts_machine.specs.declared.mode.Mode.TheVariants.{Live}
use Rattle.pts_machine.specs.declared.seen.Seen.{Seen}
use Rattle.pts_machine.specs.declared.seen.Seen.TheVariants.{Applied, Already, Held, Dropped}
use Rattle.pts_machine.specs.States.{LaneState, is_live}
use Rattle.pts_machine.specs.Chains.{EndsAfter}
use Rattle.pts_machine.specs.Steps.{settle, hear, resumed, extend, restart_at, Hears}
use Rattle.pts_machine.proofs.Ends.{reach_up}
use Rattle.pts_machine.proofs.Kept.{hears}

-- ---- hearing moves neither mode nor restart

restart_by : {E : Type 0} (t : LaneState E) (start end : ℕ) (item : E) (r : Seen) (u : LaneState E) → Hears t start end item r u → u.restart ≡ t.restart
unfolding settle
restart_by {E} t start end item Already u s = ap (λ (v : LaneState E). v.restart) s.1
restart_by {E} t start end item (Applied to) u s = ap (λ (v : LaneState E). v.restart) s.2
restart_by {E} t start end item Held u s = ap (λ (v : LaneState E). v.restart) s.3
restart_by {E} t start end item Dropped u s = ap (λ (v : LaneState E). v.restart) s.3

pub hear_restart : {E : Type 0} (t : LaneState E) (start end : ℕ) (item : E) → (hear t start end item).state.restart ≡ t.restart
hear_restart t start end item = restart_by t start end item _ _ (hears t start end item)

mode_by : {E : Type 0} (t : LaneState E) (start end : ℕ) (item : E) (r : Seen) (u : LaneState E) → Hears t start end item r u → u.mode ≡ t.mode
unfolding settle
mode_by {E} t start end item Already u s = ap (λ (v : LaneState E). v.mode) s.1
mode_by {E} t start end item (Applied to) u s = ap (λ (v : LaneState E). v.mode) s.2
mode_by {E} t start end item Held u s = ap (λ (v : LaneState E). v.mode) s.3
mode_by {E} t start end item Dropped u s = ap (λ (v : LaneState E). v.mode) s.3

pub hear_mode : {E : Type 0} (t : LaneState E) (start end : ℕ) (item : E) → (hear t start end item).state.mode ≡ t.mode
hear_mode t start end item = mode_by t start end item _ _ (hears t start end item)

-- ---- a lane that isn't live stays where it is

both_ways : (b : Bool) → b ≡ false → b ≡ true → ⊥
both_ways b f t = cc

at_by : {E : Type 0} (t : LaneState E) (start end : ℕ) (item : E) (r : Seen) (u : LaneState E) → is_live t.mode ≡ false → Hears t start end item r u → u.at ≡ t.at
at_by {E} t start end item Already u waits s = ap (λ (v : LaneState E). v.at) s.1
at_by {E} t start end item (Applied to) u waits s = absurd (both_ways (is_live t.mode) waits (ap is_live s.1.0))
at_by {E} t start end item Held u waits s = ap (λ (v : LaneState E). v.at) s.3
at_by {E} t start end item Dropped u waits s = ap (λ (v : LaneState E). v.at) s.3

pub hear_at : {E : Type 0} (t : LaneState E) (start end : ℕ) (item : E) → is_live t.mode ≡ false → (hear t start end item).state.at ≡ t.at
hear_at t start end item waits = at_by t start end item _ _ waits (hears t start end item)

events_by : {E : Type 0} (t : LaneState E) (start end : ℕ) (item : E) (r : Seen) (u : LaneState E) → is_live t.mode ≡ false → Hears t start end item r u → u.events ≡ t.events
events_by {E} t start end item Already u waits s = ap (λ (v : LaneState E). v.events) s.1
events_by {E} t start end item (Applied to) u waits s = absurd (both_ways (is_live t.mode) waits (ap is_live s.1.0))
events_by {E} t start end item Held u waits s = ap (λ (v : LaneState E). v.events) s.3
events_by {E} t start end item Dropped u waits s = ap (λ (v : LaneState E). v.events) s.3

pub hear_events : {E : Type 0} (t : LaneState E) (start end : ℕ) (item : E) → is_live t.mode ≡ false → (hear t start end item).state.events ≡ t.events
hear_events t start end item waits = events_by t start end item _ _ waits (hears t start end item)

-- ---- the position never falls, and reaches what it is told

settle_up : {E : Type 0} (t : LaneState E) → EndsAfter t.held → t.at ≤ (settle t).at
unfolding settle
settle_up t after = reach_up (len t.held) t.at t.held after

up_by : {E : Type 0} (t : LaneState E) (start end : ℕ) (item : E) (r : Seen) (u : LaneState E) → EndsAfter t.held → start < end → Hears t start end item r u → t.at ≤ u.at
up_by {E} t start end item Already u after lt s = omega (arith, ap (λ (v : LaneState E). v.at) s.1)
up_by {E} t start end item (Applied to) u after lt s =
    let here : start ≡ t.at = s.1.1 in
    omega (arith, here, ap (λ (v : LaneState E). v.at) s.2, settle_up (record t { events = t.events ++ item ∷ []; at = end }) after)
up_by {E} t start end item Held u after lt s = omega (arith, ap (λ (v : LaneState E). v.at) s.3)
up_by {E} t start end item Dropped u after lt s = omega (arith, ap (λ (v : LaneState E). v.at) s.3)

pub hear_up : {E : Type 0} (t : LaneState E) (start end : ℕ) (item : E) → EndsAfter t.held → start < end → t.at ≤ (hear t start end item).state.at
hear_up t start end item after lt = up_by t start end item _ _ after lt (hears t start end item)

from_after : {E : Type 0} (p : ℕ) (m : Items E) → EndsAfter m → EndsAfter (from p m)
from_after p m after s x is = after s x (from_some p m s x is).1

resumed_up : {E : Type 0} (t : LaneState E) (last : Bool) → EndsAfter t.held → t.at ≤ (resumed t last).at
resumed_up t true after = settle_up (record t { mode = Live }) after
resumed_up t false after = omega arith

pub extend_up : {E : Type 0} (count : E → ℕ) (t : LaneState E) (events : List E) (last : Bool) → EndsAfter t.held → t.at + sum_by count events ≤ (extend count t events last).at
unfolding extend
extend_up count t events last after =
    let to : ℕ = t.at + sum_by count events in
    resumed_up (record t { events = t.events ++ events; at = to; held = from to t.held }) last (from_after to t.held after)

pub restart_up : {E : Type 0} (count : E → ℕ) (t : LaneState E) (p : ℕ) → EndsAfter t.held → p ≤ (restart_at count t p).at
unfolding restart_at
restart_up {E} count t p after =
    let up : p + sum_by count [] ≤ (extend count (record t { restart = p; events = []; at = p }) [] true).at = extend_up count (record t { restart = p; events = []; at = p }) [] true after in
    omega arith
