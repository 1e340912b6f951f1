-- Items in turn and items after a gap, and what is held after a part of an answer.
use Rattle.std.proofs.Common.{◌≡◌, ℕ, ◌+◌, ◌<◌, ◌≤◌, ◌++◌, List, [], ◌∷◌, None, Bool, true, false, cond, leb, refl, ap, ◌∙◌, arith, append_assoc, inl, inr}
use Rattle.std.specs.List.{sum_by}
use Rattle.std.specs.FinMap.{get, len}
use Rattle.std.proofs.lemmas.Bool.Decides.{nat_tests}
use Rattle.pts_machine.proofs.Maps.{get_from}
use Rattle.pts_machine.specs.declared.mode.Mode.TheVariants.{Live}
use Rattle.pts_machine.specs.declared.seen.Seen.{Seen}
use Rattle.pts_machine.specs.declared.seen.Seen.TheVariants.{Applied, Already, Held, Dropped}
use Rattle.pts_machine.specs.States.{LaneState}
use Rattle.pts_machine.specs.Chains.{chain}
use Rattle.pts_machine.specs.Steps.{settle, hear, extend, Hears}
use Rattle.pts_machine.proofs.Kept.{hears}

waits_by : {E : Type 0} (t : LaneState E) (start end : ℕ) (item : E) (r : Seen) (u : LaneState E) → t.at < start → Hears t start end item r u
    → (u.at ≡ t.at) × (u.events ≡ t.events)
waits_by {E} t start end item Already u gap s = (ap (λ (v : LaneState E). v.at) s.1, ap (λ (v : LaneState E). v.events) s.1)
waits_by {E} t start end item (Applied to) u gap s = let here : start ≡ t.at = s.1.1 in absurd (omega (arith, gap, here))
waits_by {E} t start end item Held u gap s = (ap (λ (v : LaneState E). v.at) s.3, ap (λ (v : LaneState E). v.events) s.3)
waits_by {E} t start end item Dropped u gap s = (ap (λ (v : LaneState E). v.at) s.3, ap (λ (v : LaneState E). v.events) s.3)

pub waits_after_a_gap : {E : Type 0} (t : LaneState E) (start end : ℕ) (item : E) → t.at < start
    → ((hear t start end item).state.at ≡ t.at) × ((hear t start end item).state.events ≡ t.events)
waits_after_a_gap t start end item gap = waits_by t start end item _ _ gap (hears t start end item)

settled : {E : Type 0} (t : LaneState E) → (settle t).events ≡ t.events ++ chain (len t.held) t.at t.held
unfolding settle
settled t = refl

next_by : {E : Type 0} (t : LaneState E) (end : ℕ) (item : E) (r : Seen) (u : LaneState E) → t.mode ≡ Live → get t.held t.at ≡ None
    → Hears t t.at end item r u → (more : List E) × (u.events ≡ t.events ++ item ∷ more)
next_by {E} t end item Already u live free s = absurd (elim s.0 [
  | inl lt ↦ omega (arith, lt)
  | inr held ↦ held free
])
next_by {E} t end item (Applied to) u live free s =
    (_, ap (λ (v : LaneState E). v.events) s.2 ∙ settled (record t { events = t.events ++ item ∷ []; at = end }) ∙ append_assoc t.events (item ∷ []) _)
next_by {E} t end item Held u live free s = absurd (s.1 (live, refl))
next_by {E} t end item Dropped u live free s = absurd (s.1 (live, refl))

pub is_next_in_turn : {E : Type 0} (t : LaneState E) (end : ℕ) (item : E) → t.mode ≡ Live → get t.held t.at ≡ None
    → (more : List E) × ((hear t t.at end item).state.events ≡ t.events ++ item ∷ more)
is_next_in_turn t end item live free = next_by t end item _ _ live free (hears t t.at end item)

is_from : (p q : ℕ) → p ≤ q → leb p q ≡ true
is_from p q le = grind (arith, nat_tests)

pub is_held_still : {E : Type 0} (count : E → ℕ) (t : LaneState E) (events : List E) (s : ℕ) → t.at + sum_by count events ≤ s
    → get (extend count t events false).held s ≡ get t.held s
unfolding extend
is_held_still count t events s le =
    let to : ℕ = t.at + sum_by count events in
    get_from to t.held s ∙ ap (λ (b : Bool). cond b (get t.held s) None) (is_from to s le)
