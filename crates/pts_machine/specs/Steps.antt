-- The steps of a lane.
-- From "Working with Updates" (core.telegram.org/api/updates): an update below the position is known, one at it is applied, one past
-- it waits, and a difference comes in parts. How many items wait, and that a lane can forget, is this project's own.
use Rattle.std.specs.Prelude.{◌≡◌, ◌≢◌, ◌⊎◌, ◌<◌, ◌≤◌, None, ℕ, ◌+◌, ◌++◌, List, [], ◌∷◌, Bool, true, ltb, eqb, is_some, ◌&&◌, ◌||◌, if◌then◌else◌}
use Rattle.std.specs.List.{sum_by}
use Rattle.std.specs.FinMap as map
use Rattle.pts_machine.specs.Holding.{from, most}
use Rattle.pts_machine.specs.declared.mode.Mode.TheVariants.{Live, Asking, Again}
use Rattle.pts_machine.specs.declared.seen.Seen.{Seen}
use Rattle.pts_machine.specs.declared.seen.Seen.TheVariants.{Applied, Already, Held, Dropped}
use Rattle.pts_machine.specs.States.{LaneState, is_live}
use Rattle.pts_machine.specs.Chains.{chain, reach}

-- held items that follow are applied, and those below the position reached go
unfoldable pub settle : {E : Type 0} → LaneState E → LaneState E
settle t =
    let to = reach (map.len t.held) t.at t.held in
    record t { events = t.events ++ chain (map.len t.held) t.at t.held; at = to; held = from to t.held }

-- a lane after an item, and what came of it
pub record Heard (E : Type 0) : Type 0 where
  pub state : LaneState E
  pub seen : Seen

-- its new position is told
abbrev pub applied : {E : Type 0} → LaneState E → Heard E
applied t = record { state = t; seen = Applied t.at }

-- An item below the position, or whose start is held, is Already. In a live lane one that starts at the position is applied,
-- then what is held and follows, and what is held below the position reached goes. Any other is held; where 1,024 are, it is Dropped.
unfoldable pub hear : {E : Type 0} → LaneState E → ℕ → ℕ → E → Heard E
hear t start end item =
    if ltb start t.at || is_some (map.get t.held start) then record { state = t; seen = Already }
    else if is_live t.mode && eqb start t.at then applied (settle (record t { events = t.events ++ item ∷ []; at = end }))
    else if ltb (map.len t.held) most then record { state = record t { held = map.insert t.held start (end, item) }; seen = Held }
    else record { state = t; seen = Dropped }

-- a lane goes on after an answer: after the last part what is held and follows is applied, after another it is to ask again
abbrev pub resumed : {E : Type 0} → LaneState E → Bool → LaneState E
resumed t last = if last then settle (record t { mode = Live }) else record t { mode = Again }

-- the events of an answer are appended, and what is held below their end goes
unfoldable pub extend : {E : Type 0} → (E → ℕ) → LaneState E → List E → Bool → LaneState E
extend count t events last =
    let to = t.at + sum_by count events in
    resumed (record t { events = t.events ++ events; at = to; held = from to t.held }) last

-- the lane begins anew at p, as by a last part without events
unfoldable pub restart_at : {E : Type 0} → (E → ℕ) → LaneState E → ℕ → LaneState E
restart_at count t p = extend count (record t { restart = p; events = []; at = p }) [] true

-- nothing is held, and no answer waited for
unfoldable pub forget : {E : Type 0} → LaneState E → LaneState E
forget t = record t { held = map.empty; mode = Live }

-- the lane waits for the answer to the request of this number
abbrev pub asked : {E : Type 0} → LaneState E → ℕ → LaneState E
asked t number = record t { mode = Asking number }

-- a lane that began at p and has these events
abbrev pub loaded : {E : Type 0} → (E → ℕ) → ℕ → List E → LaneState E
loaded count p events = record { restart = p; events = events; at = p + sum_by count events; held = map.empty; mode = Live }

-- a lane that has heard of nothing
abbrev pub new_lane : {E : Type 0} → LaneState E
new_lane = record { restart = 0; events = []; at = 0; held = map.empty; mode = Live }

-- an item starts below the position, or its start is held
abbrev pub IsPast : {E : Type 0} → LaneState E → ℕ → Type 0
IsPast t start = (start < t.at) ⊎ (map.get t.held start ≢ None)

-- the lane is live, and the item starts at its position
abbrev pub IsNext : {E : Type 0} → LaneState E → ℕ → Type 0
IsNext t start = (t.mode ≡ Live) × (start ≡ t.at)

-- the same as `hear`, told by what came of the item
abbrev pub Hears : {E : Type 0} → LaneState E → ℕ → ℕ → E → Seen → LaneState E → Type 0
Hears t start end item Already u = IsPast t start × (u ≡ t)
Hears t start end item (Applied to) u =
    (IsPast t start → ⊥) × IsNext t start × (u ≡ settle (record t { events = t.events ++ item ∷ []; at = end })) × (to ≡ u.at)
Hears t start end item Held u =
    (IsPast t start → ⊥) × (IsNext t start → ⊥) × (map.len t.held < most) × (u ≡ record t { held = map.insert t.held start (end, item) })
Hears t start end item Dropped u = (IsPast t start → ⊥) × (IsNext t start → ⊥) × (most ≤ map.len t.held) × (u ≡ t)
