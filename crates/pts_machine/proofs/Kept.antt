-- Each step of a lane keeps what holds of every lane.
use Rattle.std.proofs.Common.{◌≡◌, ◌≢◌, ℕ, ◌+◌, ◌<◌, ◌≤◌, ◌++◌, List, [], ◌∷◌, Option, Some, None, Bool, true, false, cond, ltb, eqb, is_some, ◌&&◌, ◌||◌, refl, sym, ap, ◌∙◌, subst, arith, inl, inr, ◌⊎◌}
use Rattle.std.specs.List.{sum_by}
use Rattle.std.specs.Bool.{Decides}
use Rattle.std.specs.FinMap.{get, len, insert}
use Rattle.std.proofs.lemmas.Bool.Decides.{nat_tests}
use Rattle.std.proofs.lemmas.Bool.{cases_lt}
use Rattle.std.proofs.lemmas.Option.{none-some}
use Rattle.std.proofs.lemmas.List.Sums.{sum_by-append, sum_by_push}
use Rattle.pts_machine.specs.Holding.{Items, from, most}
use Rattle.pts_machine.specs.declared.mode.Mode.{Mode}
use Rattle.pts_machine.specs.declared.mode.Mode.TheVariants.{Live, Asking, Again}
use Rattle.pts_machine.specs.declared.seen.Seen.{Seen}
use Rattle.pts_machine.specs.declared.seen.Seen.TheVariants.{Applied, Already, Held, Dropped}
use Rattle.pts_machine.proofs.Maps.{from_some}
use Rattle.pts_machine.specs.States.{LaneState, IsSound, AreSized, StartAfter, is_live}
use Rattle.pts_machine.specs.Chains.{chain, reach, EndsAfter}
use Rattle.pts_machine.specs.Steps.{Heard, settle, hear, applied, extend, resumed, restart_at, forget, asked, loaded, new_lane, IsPast, IsNext, Hears}
use Rattle.pts_machine.proofs.Bounds.{sized_from, sized_empty, sized_insert, after_empty, after_insert}
use Rattle.pts_machine.proofs.Ends.{reach_free, reach_sum, reach_limit}

pub after_of : {E : Type 0} (count : E → ℕ) (m : Items E) → AreSized count m → EndsAfter m
after_of count m sized q x e = (sized q x e).0

-- a lane but for what is held in it while it is Live
pub record IsFilled {E : Type 0} (count : E → ℕ) (t : LaneState E) : Type 0 where
  pub sized : AreSized count t.held
  pub position : t.at ≡ t.restart + sum_by count t.events
  pub limit : t.at ≤ 1000000

not_free : {A : Type 0} (o : Option A) (x : A) → o ≡ None → o ≡ Some x → ⊥
not_free o x n s = cc

apart : {E : Type 0} (m : Items E) (p q : ℕ) (x : ℕ × E) → get m p ≡ None → get m q ≡ Some x → p ≤ q → p < q
apart m p q x none some le =
    let ne : p ≢ q = λ e. not_free (get m q) x (ap (get m) (sym e) ∙ none) some in
    omega arith

-- what holds of the held items of every lane
pub record HoldsAhead {E : Type 0} (count : E → ℕ) (t : LaneState E) : Type 0 where
  pub sized : AreSized count t.held
  pub ahead : t.mode ≡ Live → StartAfter t.at t.held

pub ahead_settle : {E : Type 0} (count : E → ℕ) (t : LaneState E) → AreSized count t.held → HoldsAhead count (settle t)
unfolding settle
ahead_settle count t h = record {
  sized = sized_from count _ t.held h;
  ahead = λ live q x e.
      let s = from_some _ t.held q x e in
      apart t.held _ q x (reach_free t.at t.held (after_of count t.held h)) s.1 s.0;
}

pub sound_settle : {E : Type 0} (count : E → ℕ) (t : LaneState E) → IsFilled count t → IsSound count (settle t)
unfolding settle
sound_settle count t h =
    let sum : reach (len t.held) t.at t.held ≡ t.at + sum_by count (chain (len t.held) t.at t.held) = reach_sum count (len t.held) t.at t.held h.sized in
    let held = ahead_settle count t h.sized in
    record {
      sized = held.sized;
      ahead = held.ahead;
      position = omega (arith, h.position, sum, sum_by-append count t.events (chain (len t.held) t.at t.held));
      limit = reach_limit count _ t.at t.held h.sized h.limit;
    }

pub filled_of : {E : Type 0} (count : E → ℕ) (t : LaneState E) → IsSound count t → IsFilled count t
filled_of count t h = record { sized = h.sized; position = h.position; limit = h.limit }

pub above : {E : Type 0} (t : LaneState E) (start : ℕ) → (IsPast t start → ⊥) → t.at ≤ start
above t start no_past = elim (cases_lt start t.at) [ inl lt ↦ absurd (no_past (inl lt)) | inr le ↦ le ]

pub ahead_by : {E : Type 0} (count : E → ℕ) (t : LaneState E) (start end : ℕ) (item : E) (r : Seen) (u : LaneState E)
    → HoldsAhead count t → start < end → end ≡ start + count item → end ≤ 1000000 → Hears t start end item r u → HoldsAhead count u
ahead_by count t start end item Already u h lt is le s = subst (HoldsAhead count) (sym s.1) h
ahead_by count t start end item (Applied to) u h lt is le s = subst (HoldsAhead count) (sym s.2) (ahead_settle count (record t { events = t.events ++ item ∷ []; at = end }) h.sized)
ahead_by count t start end item Held u h lt is le s =
    subst (HoldsAhead count) (sym s.3) (record {
      sized = sized_insert count t.held start (end, item) h.sized lt is le;
      ahead = λ live. after_insert t.at t.held start (end, item) (h.ahead live)
          (let past : t.at ≤ start = above t start s.0 in let ne : start ≢ t.at = λ e. s.1 (live, e) in omega arith);
    })
ahead_by count t start end item Dropped u h lt is le s = subst (HoldsAhead count) (sym s.3) h

filled_by : {E : Type 0} (count : E → ℕ) (t : LaneState E) (start end : ℕ) (item : E) (r : Seen) (u : LaneState E)
    → IsFilled count t → start < end → end ≡ start + count item → end ≤ 1000000 → Hears t start end item r u → IsFilled count u
filled_by count t start end item Already u h lt is le s = subst (IsFilled count) (sym s.1) h
filled_by count t start end item (Applied to) u h lt is le s =
    let next : start ≡ t.at = s.1.1 in
    subst (IsFilled count) (sym s.2) (filled_of count _ (sound_settle count (record t { events = t.events ++ item ∷ []; at = end }) (record {
      sized = h.sized;
      position = omega (arith, h.position, sum_by_push count t.events item);
      limit = le;
    })))
filled_by count t start end item Held u h lt is le s =
    subst (IsFilled count) (sym s.3) (record { sized = sized_insert count t.held start (end, item) h.sized lt is le; position = h.position; limit = h.limit })
filled_by count t start end item Dropped u h lt is le s = subst (IsFilled count) (sym s.3) h

pub sound_by : {E : Type 0} (count : E → ℕ) (t : LaneState E) (start end : ℕ) (item : E) (r : Seen) (u : LaneState E)
    → IsSound count t → start < end → end ≡ start + count item → end ≤ 1000000 → Hears t start end item r u → IsSound count u
sound_by count t start end item r u h lt is le s =
    let held = ahead_by count t start end item r u (record { sized = h.sized; ahead = h.ahead }) lt is le s in
    let filled = filled_by count t start end item r u (filled_of count t h) lt is le s in
    record { sized = held.sized; ahead = held.ahead; position = filled.position; limit = filled.limit }

-- the tests of `hear`
past_test : {A : Type 0} (s p : ℕ) (o : Option A) → Decides (ltb s p || is_some o) ((s < p) ⊎ (o ≢ None))
past_test s p None = (λ e. inl (grind (arith, nat_tests)), elim [ inl lt ↦ grind (arith, nat_tests) | inr ne ↦ absurd (ne refl) ])
past_test s p (Some x) = (λ e. inr (λ n. absurd (none-some x (sym n))), λ h. grind (arith, nat_tests))

pub next_test : (m : Mode) (s p : ℕ) → Decides (is_live m && eqb s p) ((m ≡ Live) × (s ≡ p))
next_test Live s p = (λ e. (refl, grind (arith, nat_tests)), λ h. let same : s ≡ p = h.1 in grind (arith, nat_tests))
next_test Again s p = (λ e. absurd cc, λ h. absurd cc)
next_test (Asking n) s p = (λ e. absurd cc, λ h. absurd cc)

pub false_of : {P : Type 0} (b : Bool) → Decides b P → (P → ⊥) → b ≡ false
false_of true d no_p = absurd (no_p (d.0 refl))
false_of false d no_p = refl

-- what a relation says of an item is what `hear` gives
pub hear_is : {E : Type 0} (t : LaneState E) (start end : ℕ) (item : E) (r : Seen) (u : LaneState E) → Hears t start end item r u → hear t start end item ≡ record { state = u; seen = r }
unfolding hear
hear_is {E} t start end item Already u h =
    let past = (past_test start t.at (get t.held start)).1 h.0 in
    rw past (ap (λ (v : LaneState E). record { state = v; seen = Already }) (sym h.1))
hear_is {E} t start end item (Applied to) u h =
    let past = false_of _ (past_test start t.at (get t.held start)) h.0 in
    let next = (next_test t.mode start t.at).1 h.1 in
    rw (past, next, h.3) (ap applied (sym h.2))
hear_is {E} t start end item Held u h =
    let past = false_of _ (past_test start t.at (get t.held start)) h.0 in
    let next = false_of _ (next_test t.mode start t.at) h.1 in
    let few : ltb (len t.held) most ≡ true = let less = h.2 in grind (arith, nat_tests) in
    rw (past, next, few) (ap (λ (v : LaneState E). record { state = v; seen = Held }) (sym h.3))
hear_is {E} t start end item Dropped u h =
    let past = false_of _ (past_test start t.at (get t.held start)) h.0 in
    let next = false_of _ (next_test t.mode start t.at) h.1 in
    let many : ltb (len t.held) most ≡ false = let le = h.2 in grind (arith, nat_tests) in
    rw (past, next, many) (ap (λ (v : LaneState E). record { state = v; seen = Dropped }) (sym h.3))

abbrev hear_by : {E : Type 0} → LaneState E → ℕ → ℕ → E → Bool → Bool → Bool → Heard E
hear_by t start end item true next few = record { state = t; seen = Already }
hear_by t start end item false true few = applied (settle (record t { events = t.events ++ item ∷ []; at = end }))
hear_by t start end item false false true = record { state = record t { held = insert t.held start (end, item) }; seen = Held }
hear_by t start end item false false false = record { state = t; seen = Dropped }

pub no_of : {P : Type 0} → Decides false P → P → ⊥
no_of d p = absurd (let e = d.1 p in cc)

few_test : (n : ℕ) → Decides (ltb n most) (n < most)
few_test n = (λ e. grind (arith, nat_tests), λ h. grind (arith, nat_tests))

many_of : (n : ℕ) → (n < most → ⊥) → most ≤ n
many_of n h = elim (cases_lt n most) [ inl lt ↦ absurd (h lt) | inr le ↦ le ]

hears_by : {E : Type 0} (t : LaneState E) (start end : ℕ) (item : E) (past next few : Bool) → Decides past (IsPast t start) → Decides next (IsNext t start) → Decides few (len t.held < most)
    → Hears t start end item (hear_by t start end item past next few).seen (hear_by t start end item past next few).state
hears_by t start end item true next few p n f = (p.0 refl, refl)
hears_by t start end item false true few p n f = (no_of p, n.0 refl, refl, refl)
hears_by t start end item false false true p n f = (no_of p, no_of n, f.0 refl, refl)
hears_by t start end item false false false p n f = (no_of p, no_of n, many_of _ (no_of f), refl)

same_by : {E : Type 0} (t : LaneState E) (start end : ℕ) (item : E) (past next few : Bool) → hear_by t start end item past next few ≡
    cond past (record { state = t; seen = Already }) (cond next (applied (settle (record t { events = t.events ++ item ∷ []; at = end }))) (cond few (record { state = record t { held = insert t.held start (end, item) }; seen = Held }) (record { state = t; seen = Dropped })))
same_by t start end item true next few = refl
same_by t start end item false true few = refl
same_by t start end item false false true = refl
same_by t start end item false false false = refl

hear_tests : {E : Type 0} (t : LaneState E) (start end : ℕ) (item : E) → hear_by t start end item (ltb start t.at || is_some (get t.held start)) (is_live t.mode && eqb start t.at) (ltb (len t.held) most) ≡ hear t start end item
unfolding hear
hear_tests t start end item = same_by t start end item _ _ _

pub hears : {E : Type 0} (t : LaneState E) (start end : ℕ) (item : E) → Hears t start end item (hear t start end item).seen (hear t start end item).state
hears {E} t start end item =
    subst (λ (h : Heard E). Hears t start end item h.seen h.state) (hear_tests t start end item)
    (hears_by t start end item _ _ _ (past_test start t.at (get t.held start)) (next_test t.mode start t.at) (few_test (len t.held)))

-- the steps keep what holds of every lane
pub sound_hear : {E : Type 0} (count : E → ℕ) (t : LaneState E) (start end : ℕ) (item : E)
    → IsSound count t → start < end → end ≡ start + count item → end ≤ 1000000 → IsSound count (hear t start end item).state
sound_hear count t start end item h lt is le = sound_by count t start end item _ _ h lt is le (hears t start end item)

sound_again : {E : Type 0} (count : E → ℕ) (t : LaneState E) → IsFilled count t → IsSound count (record t { mode = Again })
sound_again count t h = record { sized = h.sized; ahead = λ e. absurd cc; position = h.position; limit = h.limit }

pub sound_resumed : {E : Type 0} (count : E → ℕ) (t : LaneState E) (last : Bool) → IsFilled count t → IsSound count (resumed t last)
sound_resumed count t true h = sound_settle count (record t { mode = Live }) (record { sized = h.sized; position = h.position; limit = h.limit })
sound_resumed count t false h = sound_again count t h

-- an answer's events make a lane sound that was sound but for what it held
filled_extend : {E : Type 0} (count : E → ℕ) (t : LaneState E) (events : List E) (last : Bool) → IsFilled count t → t.at + sum_by count events ≤ 1000000 → IsSound count (extend count t events last)
unfolding extend
filled_extend count t events last h le = sound_resumed count (record t { events = t.events ++ events; at = t.at + sum_by count events; held = from (t.at + sum_by count events) t.held }) last (record {
  sized = sized_from count _ t.held h.sized;
  position = omega (arith, h.position, sum_by-append count t.events events);
  limit = le;
})

pub sound_extend : {E : Type 0} (count : E → ℕ) (t : LaneState E) (events : List E) (last : Bool) → IsSound count t → t.at + sum_by count events ≤ 1000000 → IsSound count (extend count t events last)
sound_extend count t events last h le = filled_extend count t events last (filled_of count t h) le

pub sound_restart : {E : Type 0} (count : E → ℕ) (t : LaneState E) (p : ℕ) → IsSound count t → p ≤ 1000000 → IsSound count (restart_at count t p)
unfolding restart_at
sound_restart count t p h le = filled_extend count (record t { restart = p; events = []; at = p }) [] true (record { sized = h.sized; position = omega arith; limit = le }) (omega arith)

pub sound_forget : {E : Type 0} (count : E → ℕ) (t : LaneState E) → IsSound count t → IsSound count (forget t)
unfolding forget
sound_forget count t h = record { sized = sized_empty count; ahead = λ live. after_empty t.at; position = h.position; limit = h.limit }

pub sound_asked : {E : Type 0} (count : E → ℕ) (t : LaneState E) (n : ℕ) → IsSound count t → IsSound count (asked t n)
sound_asked count t n h = record { sized = h.sized; ahead = λ e. absurd cc; position = h.position; limit = h.limit }

pub sound_loaded : {E : Type 0} (count : E → ℕ) (p : ℕ) (events : List E) → p + sum_by count events ≤ 1000000 → IsSound count (loaded count p events)
sound_loaded count p events le = record { sized = sized_empty count; ahead = λ live. after_empty _; position = refl; limit = le }

pub sound_new : {E : Type 0} (count : E → ℕ) → IsSound count new_lane
sound_new count = record { sized = sized_empty count; ahead = λ live. after_empty _; position = omega arith; limit = omega arith }

pub sound_after : {E : Type 0} (count : E → ℕ) (t : LaneState E) → IsSound count t → EndsAfter t.held
sound_after count t h = after_of count t.held h.sized
