-- Boundaries of a box and of what follows its first event.
use Rattle.std.proofs.Common.{◌≡◌, ℕ, ◌+◌, ◌-◌, ◌≤◌, List, [], ◌∷◌, ◌++◌, refl, ap, arith}
use Rattle.box_events.specs.Events.{EventView, count_of}
use Rattle.box_events.specs.Boxes.{ending, IsBoundary, AreCounted}

pub boundary_after : (e : EventView) (es : List EventView) (p q : ℕ) → p ≡ count_of e + q → IsBoundary es q → IsBoundary (e ∷ es) p
boundary_after e es p q is b = record {
  prefix = e ∷ b.prefix;
  rest = b.rest;
  whole = ap (λ l. e ∷ l) b.whole;
  stop = omega (arith, is, b.stop);
}

heads_of : (e f : EventView) (es fs : List EventView) → e ∷ es ≡ f ∷ fs → (count_of e ≡ count_of f) × (es ≡ fs)
heads_of e f es fs is = (ap (λ (l : List EventView). elim l as (λ _. ℕ) [ [] ↦ 0 | x ∷ xs ↦ count_of x ]) is, ap (λ (l : List EventView). elim l as (λ _. List EventView) [ [] ↦ [] | x ∷ xs ↦ xs ]) is)

past_first : (e : EventView) (es prefix rest : List EventView) (p : ℕ) → 1 ≤ p → e ∷ es ≡ prefix ++ rest → ending prefix ≡ p → (count_of e ≤ p) × IsBoundary es (p - count_of e)
past_first e es [] rest p some whole stop = absurd (omega arith)
past_first e es (f ∷ fs) rest p some whole stop =
    let h = heads_of e f es (fs ++ rest) whole in
    (omega (arith, h.0, stop), record { prefix = fs; rest = rest; whole = h.1; stop = omega (arith, h.0, stop) })

-- a boundary above 0 is after the first event
pub boundary_past : (e : EventView) (es : List EventView) (p : ℕ) → 1 ≤ p → IsBoundary (e ∷ es) p → (count_of e ≤ p) × IsBoundary es (p - count_of e)
boundary_past e es p some b = past_first e es b.prefix b.rest p some b.whole b.stop

pub boundary_zero : (box : List EventView) → IsBoundary box 0
boundary_zero box = record { prefix = []; rest = box; whole = refl; stop = refl }

pub ending-append : (xs ys : List EventView) → ending (xs ++ ys) ≡ ending xs + ending ys
ending-append [] ys = omega arith
ending-append (x ∷ xs) ys = omega (arith, ending-append xs ys)

pub counted-append : (xs ys : List EventView) → AreCounted xs → AreCounted ys → AreCounted (xs ++ ys)
counted-append [] ys a b = b
counted-append (x ∷ xs) ys a b = (a.0, counted-append xs ys a.1 b)
