-- A lane's numbers follow from the numbers.
use Rattle.std.proofs.Common.{◌≡◌, ℕ, ◌+◌, List, [], ◌∷◌, ◌++◌, map, Bool, true, false, cond, ltb, eqb, ◌&&◌, ◌||◌, is_some, sum_by, refl, sym, ap, ap₂, ◌∙◌, arith}
use Rattle.std.specs.FinMap.{get, len, insert}
use Rattle.std.proofs.lemmas.List.{map-append}
use Rattle.pts_machine.specs.Holding.{Items, from, most}
use Rattle.pts_machine.specs.declared.mode.Mode.TheVariants.{Live}
use Rattle.pts_machine.specs.declared.seen.Seen.TheVariants.{Already, Held, Dropped}
use Rattle.pts_machine.specs.States.{LaneState, is_live}
use Rattle.pts_machine.specs.Chains.{chain, reach}
use Rattle.pts_machine.specs.Steps.{Heard, hear, applied, settle, extend, resumed, restart_at, forget}
use Rattle.box_client.specs.Numbers.{mapped, lane_by, without_events, LaneNumbers, lane_numbers, n_heard, n_extended, n_restarted}
use Rattle.box_client.proofs.Mapped.{len_mapped, mapped_insert, mapped_from, mapped_empty, has_mapped, chain_mapped, reach_mapped}

abbrev heard_by : {X Y : Type 0} → (X → Y) → Heard X → Heard Y
heard_by f h = record { state = lane_by f h.state; seen = h.seen }

pub settle_by : {X Y : Type 0} (f : X → Y) (t : LaneState X) → lane_by f (settle t) ≡ settle (lane_by f t)
unfolding settle
settle_by {X = X} {Y = Y} f t =
    let n = len t.held in
    let far : reach n t.at t.held ≡ reach (len (mapped f t.held)) t.at (mapped f t.held) = reach_mapped f n t.at t.held ∙ ap (λ (k : ℕ). reach k t.at (mapped f t.held)) (sym (len_mapped f t.held)) in
    let events : map f (t.events ++ chain n t.at t.held) ≡ map f t.events ++ chain (len (mapped f t.held)) t.at (mapped f t.held) =
    map-append f t.events (chain n t.at t.held) ∙ ap (λ (ys : List Y). map f t.events ++ ys) (chain_mapped f n t.at t.held ∙ ap (λ (k : ℕ). chain k t.at (mapped f t.held)) (sym (len_mapped f t.held))) in
    let held : mapped f (from (reach n t.at t.held) t.held) ≡ from (reach (len (mapped f t.held)) t.at (mapped f t.held)) (mapped f t.held) =
    mapped_from f t.held (reach n t.at t.held) ∙ ap (λ (p : ℕ). from p (mapped f t.held)) far in
    λ i. record { restart = t.restart; events = events i; at = far i; held = held i; mode = t.mode }

abbrev heard_when : {E : Type 0} → Bool → Bool → Bool → LaneState E → ℕ → ℕ → E → Heard E
heard_when old next room t start end item =
    cond old (record { state = t; seen = Already })
    (cond next (applied (settle (record t { events = t.events ++ item ∷ []; at = end })))
    (cond room (record { state = record t { held = insert t.held start (end, item) }; seen = Held })
    (record { state = t; seen = Dropped })))

when_by : {X Y : Type 0} (f : X → Y) (old next room : Bool) (t : LaneState X) (start end : ℕ) (item : X) → heard_by f (heard_when old next room t start end item) ≡ heard_when old next room (lane_by f t) start end (f item)
when_by f true next room t start end item = refl
when_by {Y = Y} f false true room t start end item =
    ap (λ (u : LaneState Y). applied u) (settle_by f (record t { events = t.events ++ item ∷ []; at = end }) ∙ ap (λ (ys : List Y). settle (record (lane_by f t) { events = ys; at = end })) (map-append f t.events (item ∷ [])))
when_by {Y = Y} f false false true t start end item = ap (λ (h : Items Y). record { state = record (lane_by f t) { held = h }; seen = Held }) (mapped_insert f t.held start end item)
when_by f false false false t start end item = refl

pub hear_by : {X Y : Type 0} (f : X → Y) (t : LaneState X) (start end : ℕ) (item : X) → heard_by f (hear t start end item) ≡ hear (lane_by f t) start end (f item)
unfolding hear
hear_by f t start end item =
    when_by f (ltb start t.at || is_some (get t.held start)) (is_live t.mode && eqb start t.at) (ltb (len t.held) most) t start end item
    ∙ ap₂ (λ (a b : Bool). heard_when (ltb start t.at || a) (is_live t.mode && eqb start t.at) b (lane_by f t) start end (f item)) (sym (has_mapped f t.held start)) (ap (λ (n : ℕ). ltb n most) (sym (len_mapped f t.held)))

abbrev heard_bare : {X : Type 0} → Heard X → Heard X
heard_bare h = record { state = without_events h.state; seen = h.seen }

when_bare : {X : Type 0} (old next room : Bool) (t : LaneState X) (start end : ℕ) (item : X) → heard_bare (heard_when old next room t start end item) ≡ heard_bare (heard_when old next room (without_events t) start end item)
unfolding settle
when_bare true next room t start end item = refl
when_bare false true room t start end item = refl
when_bare false false true t start end item = refl
when_bare false false false t start end item = refl

hear_bare : {X : Type 0} (t : LaneState X) (start end : ℕ) (item : X) → heard_bare (hear t start end item) ≡ heard_bare (hear (without_events t) start end item)
unfolding hear
hear_bare t start end item = when_bare (ltb start t.at || is_some (get t.held start)) (is_live t.mode && eqb start t.at) (ltb (len t.held) most) t start end item

pub lane_heard : {E : Type 0} (t : LaneState E) (start end : ℕ) (item : E) → record { state = lane_numbers (hear t start end item).state; seen = (hear t start end item).seen } ≡ n_heard (lane_numbers t) start end
lane_heard t start end item = ap heard_bare (hear_by (λ _. tt) t start end item) ∙ hear_bare (lane_by (λ _. tt) t) start end tt

settle_bare : {X : Type 0} (t : LaneState X) → without_events (settle t) ≡ without_events (settle (without_events t))
unfolding settle
settle_bare t = refl

resumed_numbers : {E : Type 0} (t : LaneState E) (last : Bool) → lane_numbers (resumed t last) ≡ without_events (resumed (lane_numbers t) last)
resumed_numbers t true =
    ap (λ (u : LaneNumbers). without_events u) (settle_by (λ _. tt) (record t { mode = Live })) ∙ settle_bare (lane_by (λ _. tt) (record t { mode = Live }))
resumed_numbers t false = refl

pub lane_extended : {E : Type 0} (count : E → ℕ) (t : LaneState E) (events : List E) (last : Bool) (to : ℕ) → t.at + sum_by count events ≡ to → lane_numbers (extend count t events last) ≡ n_extended (lane_numbers t) to last
unfolding extend
lane_extended count t events last to is =
    let p = t.at + sum_by count events in
    resumed_numbers (record t { events = t.events ++ events; at = p; held = from p t.held }) last
    ∙ ap (λ (h : Items (Unit {0})). without_events (resumed (record (lane_numbers t) { at = p; held = h }) last)) (mapped_from (λ _. tt) t.held p)
    ∙ ap (λ (q : ℕ). n_extended (lane_numbers t) q last) is

pub lane_restarted : {E : Type 0} (count : E → ℕ) (t : LaneState E) (p : ℕ) → lane_numbers (restart_at count t p) ≡ n_restarted (lane_numbers t) p
unfolding restart_at
lane_restarted count t p = lane_extended count (record t { restart = p; events = []; at = p }) [] true p (omega arith)

pub lane_forgot : {E : Type 0} (t : LaneState E) → lane_numbers (forget t) ≡ forget (lane_numbers t)
unfolding forget
lane_forgot t = ap (λ (h : Items (Unit {0})). record { restart = t.restart; events = []; at = t.at; held = h; mode = Live }) (mapped_empty (λ _. tt))
