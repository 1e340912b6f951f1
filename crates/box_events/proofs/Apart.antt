-- Other events that don't overlap.
use Rattle.std.proofs.Common.{◌≡◌, ℕ, ◌+◌, ◌≤◌, List, [], ◌∷◌, Option, Some, None, Bool, true, false, cond, ltb, ◌||◌, refl, sym, ◌∙◌, arith}
use Rattle.std.proofs.lemmas.Bool.Decides.{nat_tests}
use Rattle.box_events.specs.Events.{count_of}
use Rattle.box_events.specs.declared.updates.Placed.{Placed}
use Rattle.box_events.specs.Refusal.{overlap, counts}

no_some : {A : Type 0} (b : Bool) (x : A) (o : Option A) → cond b (Some x) o ≡ None → (b ≡ false) × (o ≡ None)
no_some true x o e = absurd cc
no_some false x o e = (refl, e)

-- the test of `overlap`
apart_test : {A : Type 0} (p at n to : ℕ) (x : A) (rest : Option A) → cond (ltb p (at + n) || ltb to p) (Some x) rest ≡ None → (at + n ≤ p) × (p ≤ to) × (rest ≡ None)
apart_test p at n to x rest e =
    let f = no_some _ x rest e in
    (grind (arith, nat_tests, f.0), grind (arith, nat_tests, f.0), f.1)

passes : (p at n to : ℕ) → at + n ≤ p → p ≤ to → (ltb p (at + n) || ltb to p) ≡ false
passes p at n to le le2 = grind (arith, nat_tests)

-- the first event, and those after it
pub apart_head : (at to : ℕ) (o : Placed) (os : List Placed) → overlap at to (o ∷ os) ≡ None → (at + count_of o.event ≤ o.pts) × (o.pts ≤ to) × (overlap o.pts to os ≡ None)
apart_head at to o os e = apart_test o.pts at (count_of o.event) to o.pts (overlap o.pts to os) e

pub apart_more : (at to : ℕ) (o : Placed) (os : List Placed) → at + count_of o.event ≤ o.pts → o.pts ≤ to → overlap o.pts to os ≡ overlap at to (o ∷ os)
apart_more at to o os le le2 = rw (passes o.pts at (count_of o.event) to le le2) refl

-- there is room for the counts up to the end
pub counts_fit : (at to : ℕ) (os : List Placed) → at ≤ to → overlap at to os ≡ None → at + counts os ≤ to
counts_fit at to [] le e = omega arith
counts_fit at to (o ∷ os) le e =
    let h = apart_head at to o os e in
    omega (arith, h.0, counts_fit o.pts to os h.1 h.2)

-- what is apart from a number on is apart from a lower one on
pub apart_lower : (p at to : ℕ) (os : List Placed) → p ≤ at → overlap at to os ≡ None → overlap p to os ≡ None
apart_lower p at to [] le e = refl
apart_lower p at to (o ∷ os) le e =
    let h = apart_head at to o os e in
    sym (apart_more p to o os (omega (arith, h.0, le)) h.1) ∙ h.2
