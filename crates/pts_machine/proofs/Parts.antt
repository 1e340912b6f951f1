-- The steps of a lane, from what the parts of the code give.
use Rattle.std.proofs.Common.{◌≡◌, ℕ, ◌+◌, ◌<◌, ◌≤◌, ◌++◌, List, [], Bool, true, false, cond, is_some, eqb, ◌&&◌, refl, sym, ap, ◌∙◌, subst, arith, inl, inr}
use Rattle.std.specs.List.{sum_by}
use Rattle.std.specs.FinMap.{get, len, empty, len-insert}
use Rattle.std.specs.Cmp.{nat_cmp_total}
use Rattle.pts_machine.specs.Holding.{Items, GapView, from, most, Holds}
use Rattle.pts_machine.specs.declared.held.Held.{Held as HowHeld}
use Rattle.pts_machine.specs.declared.held.Held.TheVariants.{Kept, Already, Full}
use Rattle.pts_machine.specs.declared.mode.Mode.{Mode}
use Rattle.pts_machine.specs.declared.mode.Mode.TheVariants.{Live, Again}
use Rattle.pts_machine.specs.declared.seen.Seen.{Seen}
use Rattle.pts_machine.specs.States.{LaneState, StartAfter, is_live}
use Rattle.pts_machine.specs.Chains.{chain, reach}
use Rattle.pts_machine.specs.Steps.{settle, extend, restart_at, forget, loaded, IsPast, IsNext, Hears}
use Rattle.pts_machine.specs.Outcomes.{seen_by, kept_by}
use Rattle.pts_machine.proofs.Ends.{none_at, some_at, look}
use Rattle.pts_machine.proofs.Kept.{next_test}

pub same_state : {E : Type 0} (restart : ℕ) (mode : Mode) (es es2 : List E) (at at2 : ℕ) (m m2 : Items E) → es ≡ es2 → at ≡ at2 → m ≡ m2
    → ◌≡◌ {A = LaneState E} (record { restart = restart; events = es; at = at; held = m; mode = mode }) (record { restart = restart; events = es2; at = at2; held = m2; mode = mode })
same_state restart mode es es2 at at2 m m2 p q r = λ i. record { restart = restart; events = p i; at = q i; held = r i; mode = mode }

pub settled : {E : Type 0} (t : LaneState E) (es : List E) (r : ℕ) (m : Items E) → es ≡ t.events ++ chain (len t.held) t.at t.held → r ≡ reach (len t.held) t.at t.held → m ≡ from r t.held → record t { events = es; at = r; held = m } ≡ settle t
unfolding settle
settled t es r m p q s = same_state t.restart t.mode es _ r _ m _ p q (s ∙ ap (λ (k : ℕ). from k t.held) q)

-- after the last part of an answer
pub last_part : {E : Type 0} (count : E → ℕ) (t : LaneState E) (events es es2 : List E) (at at2 : ℕ) (m m2 : Items E) (last : Bool) → last ≡ true
    → es ≡ t.events ++ events → at ≡ t.at + sum_by count events → m ≡ from at t.held → es2 ≡ es ++ chain (len m) at m → at2 ≡ reach (len m) at m → m2 ≡ from at2 m
    → record t { events = es2; at = at2; held = m2; mode = Live } ≡ extend count t events last
unfolding extend
last_part {E} count t events es es2 at at2 m m2 last is p q r p2 q2 r2 =
    settled (record t { events = es; at = at; held = m; mode = Live }) es2 at2 m2 p2 q2 r2
    ∙ ap settle (same_state t.restart Live es (t.events ++ events) at (t.at + sum_by count events) m (from (t.at + sum_by count events) t.held) p q (r ∙ ap (λ (k : ℕ). from k t.held) q))
    ∙ ap (λ (b : Bool). extend count t events b) (sym is)

-- after another part
pub part : {E : Type 0} (count : E → ℕ) (t : LaneState E) (events es : List E) (at : ℕ) (m : Items E) (last : Bool) → last ≡ false
    → es ≡ t.events ++ events → at ≡ t.at + sum_by count events → m ≡ from at t.held
    → record t { events = es; at = at; held = m; mode = Again } ≡ extend count t events last
unfolding extend
part {E} count t events es at m last is p q r =
    same_state t.restart Again es (t.events ++ events) at (t.at + sum_by count events) m (from (t.at + sum_by count events) t.held) p q (r ∙ ap (λ (k : ℕ). from k t.held) q)
    ∙ ap (λ (b : Bool). extend count t events b) (sym is)

pub restarted : {E : Type 0} (count : E → ℕ) (t : LaneState E) (es es2 : List E) (p at2 : ℕ) (m m2 : Items E)
    → es ≡ [] → m ≡ from p t.held → es2 ≡ es ++ chain (len m) p m → at2 ≡ reach (len m) p m → m2 ≡ from at2 m
    → ◌≡◌ {A = LaneState E} (record { restart = p; events = es2; at = at2; held = m2; mode = Live }) (restart_at count t p)
unfolding restart_at
restarted {E} count t es es2 p at2 m m2 none held events position rest =
    last_part count (record t { restart = p; events = []; at = p }) [] es es2 p at2 m m2 true refl none (omega arith) held events position rest

pub forgotten : {E : Type 0} (t : LaneState E) (m : Items E) → m ≡ empty → record t { held = m; mode = Live } ≡ forget t
unfolding forget
forgotten t m e = λ i. record t { held = e i; mode = Live }

-- an item in turn
pub next_of : (m : Mode) (s p : ℕ) (b : Bool) → b ≡ (is_live m && eqb s p) → b ≡ true → (m ≡ Live) × (s ≡ p)
next_of m s p b e t = (next_test m s p).0 (sym e ∙ t)

both_ways : (b : Bool) → b ≡ false → b ≡ true → ⊥
both_ways b f t = cc

pub not_next_of : (m : Mode) (s p : ℕ) (b : Bool) → b ≡ (is_live m && eqb s p) → b ≡ false → (m ≡ Live) × (s ≡ p) → ⊥
not_next_of m s p b e f h = both_ways _ (sym e ∙ f) ((next_test m s p).1 h)

pub never_past : {E : Type 0} (t : LaneState E) (start : ℕ) → (t.mode ≡ Live → StartAfter t.at t.held) → IsNext t start → IsPast t start → ⊥
never_past t start ahead next (inl lt) = let same : start ≡ t.at = next.1 in absurd (omega arith)
never_past t start ahead next (inr ne) = elim (look t.held start) [
  | none_at e ↦ ne e
  | some_at x e ↦ let same : start ≡ t.at = next.1 in let past : t.at < start = ahead next.0 start x e in absurd (omega arith)
]

cond_le : (b : Bool) (n : ℕ) → cond b n (n + 1) ≤ n + 1
cond_le true n = omega arith
cond_le false n = omega arith

same_held : {E : Type 0} (t : LaneState E) (m k : Items E) → m ≡ k → record t { held = m } ≡ record t { held = k }
same_held t m k e = λ i. record t { held = e i }

-- an item that is not applied at once is held, as the gap says
pub held_hears : {E : Type 0} (t : LaneState E) (start end : ℕ) (item : E) (old new : GapView E) (r : HowHeld E)
    → (IsNext t start → ⊥) → t.at ≤ start → Holds old new start end item r → Hears (record t { held = old.held }) start end item (seen_by r) (record t { held = new.held })
held_hears t start end item old new Kept no_next le h =
    (elim [ inl lt ↦ absurd (omega arith) | inr ne ↦ ne h.0 ], no_next, h.1, λ i. record t { held = h.2 i })
held_hears t start end item old new (Already x) no_next le h = (inr h.0, same_held t new.held old.held (ap (λ (g : GapView _). g.held) h.2))
held_hears t start end item old new (Full x) no_next le h =
    (elim [ inl lt ↦ absurd (omega arith) | inr ne ↦ ne h.0 ], no_next, (let full : len old.held ≡ most = h.1 in omega arith), same_held t new.held old.held (ap (λ (g : GapView _). g.held) h.3))

pub kept_most : {E : Type 0} (r : HowHeld E) (n : ℕ) → kept_by r n ≤ n
kept_most Kept n = omega arith
kept_most (Already x) n = omega arith
kept_most (Full x) n = omega arith

pub held_len : {E : Type 0} (old new : GapView E) (start end : ℕ) (item : E) (r : HowHeld E) → Holds old new start end item r → len new.held ≤ len old.held + kept_by r 1
held_len old new start end item Kept h = omega (arith, ap len h.2, len-insert nat_cmp_total old.held start (end, item), cond_le (is_some (get old.held start)) (len old.held))
held_len old new start end item (Already x) h = omega (arith, ap (λ (g : GapView _). len g.held) h.2)
held_len old new start end item (Full x) h = omega (arith, ap (λ (g : GapView _). len g.held) h.3)

-- an item takes room for one, so the room for its parts is enough for it
pub held_spare : {E : Type 0} (old new : GapView E) (start end : ℕ) (item : E) (r : HowHeld E) (n : ℕ) → 1 ≤ n → Holds old new start end item r → old.spare ≤ new.spare + kept_by r n
held_spare old new start end item Kept n some h = let one : old.spare ≤ new.spare + 1 = h.3 in omega arith
held_spare old new start end item (Already x) n some h = omega (arith, ap (λ (g : GapView _). g.spare) h.2)
held_spare old new start end item (Full x) n some h = omega (arith, ap (λ (g : GapView _). g.spare) h.3)

pub fresh : {E : Type 0} (restart at : ℕ) (events : List E) (m : Items E) (count : E → ℕ) → m ≡ empty → at ≡ restart + sum_by count events
    → ◌≡◌ {A = LaneState E} (record { restart = restart; events = events; at = at; held = m; mode = Live }) (loaded count restart events)
fresh restart at events m count e f = λ i. record { restart = restart; events = events; at = f i; held = e i; mode = Live }

pub hears_as : {E : Type 0} (t v : LaneState E) (start end : ℕ) (item : E) (r : Seen) (u : LaneState E) → t ≡ v → Hears t start end item r u → Hears v start end item r u
hears_as {E} t v start end item r u e h = subst (λ (w : LaneState E). Hears w start end item r u) e h

pub holds_to : {E : Type 0} (old new : GapView E) (start end to : ℕ) (item : E) (r : HowHeld E) → end ≡ to → Holds old new start end item r → Holds old new start to item r
holds_to old new start end to item r e h = subst (λ (n : ℕ). Holds old new start n item r) e h
