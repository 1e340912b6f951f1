-- What is merged of parts that fit is woven of them.
use Rattle.std.proofs.Common.{◌≡◌, ℕ, ◌+◌, ◌-◌, ◌≤◌, List, [], ◌∷◌, ◌++◌, length, map, take, drop, None, true, false, refl, ap, ◌∙◌, subst, arith, append-nil}
use Rattle.std.proofs.lemmas.List.{length-drop, length-take-le, take-append-drop}
use Rattle.box_events.specs.Events.{EventView, added, count_of, body_of, is_new}
use Rattle.box_events.specs.declared.updates.Placed.{Placed}
use Rattle.box_events.specs.Weaving.{Woven, bodies, others_from, ends_at}
use Rattle.box_events.specs.Refusal.{AreOthers, Fits, overlap, covered}
use Rattle.box_events.specs.inner.Merging.{merged, free}
use Rattle.box_events.proofs.Apart.{apart_head, counts_fit}

pub new_first : (e : EventView) (es : List EventView) (p : ℕ) → is_new e ≡ true → (bodies (e ∷ es) ≡ body_of e ∷ bodies es) × (others_from p (e ∷ es) ≡ others_from (p + count_of e) es)
new_first e es p new = (rw new refl, rw new refl)

pub other_first : (e : EventView) (es : List EventView) (p : ℕ) → is_new e ≡ false → (bodies (e ∷ es) ≡ bodies es) × (others_from p (e ∷ es) ≡ ends_at e (p + count_of e) ∷ others_from (p + count_of e) es)
other_first e es p other = (rw other refl, rw other refl)

woven_new : (at to : ℕ) (b : List ℕ) (ns : List (List ℕ)) (os : List Placed) (tail : List EventView) → Woven (at + 1) to ns os tail → Woven at to (b ∷ ns) os (added b ∷ tail)
woven_new at to b ns os tail w = record { sum = omega (arith, w.sum); messages = ap (λ (xs : List (List ℕ)). b ∷ xs) w.messages; rest = w.rest }

woven_other : (at to : ℕ) (ns : List (List ℕ)) (o : Placed) (os : List Placed) (tail : List EventView) → is_new o.event ≡ false → at + count_of o.event ≡ o.pts → Woven o.pts to ns os tail → Woven at to ns (o ∷ os) (o.event ∷ tail)
woven_other at to ns o os tail other is w =
    let f = other_first o.event tail at other in
    record {
      sum = omega (arith, w.sum, is);
      messages = f.0 ∙ w.messages;
      rest = f.1 ∙ ap (λ (p : ℕ). ends_at o.event p ∷ others_from p tail) is ∙ ap (λ (xs : List Placed). o ∷ xs) w.rest;
    }

-- messages before a woven list
woven_news : (at to next : ℕ) (ms ns : List (List ℕ)) (os : List Placed) (tail : List EventView) → at + length ms ≡ next → Woven next to ns os tail → Woven at to (ms ++ ns) os (map added ms ++ tail)
woven_news at to next [] ns os tail is w = let same : next ≡ at = omega (arith, is) in subst (λ (k : ℕ). Woven k to ns os tail) same w
woven_news at to next (b ∷ ms) ns os tail is w = woven_new at to b (ms ++ ns) os (map added ms ++ tail) (woven_news (at + 1) to next ms ns os tail (omega (arith, is)) w)

woven_end : (to : ℕ) → Woven to to [] [] []
woven_end to = record { sum = omega arith; messages = refl; rest = refl }

pub merged_woven : (at to : ℕ) (ns : List (List ℕ)) (os : List Placed) → AreOthers os → overlap at to os ≡ None → at + covered ns os ≡ to → Woven at to ns os (merged at ns os)
merged_woven at to ns [] others apart even =
    subst (λ (l : List (List ℕ)). Woven at to l [] (map added ns)) (append-nil ns)
    (subst (λ (l : List EventView). Woven at to (ns ++ []) [] l) (append-nil (map added ns)) (woven_news at to to ns [] [] [] (omega (arith, even)) (woven_end to)))
merged_woven at to ns (o ∷ os) others apart even =
    let h = apart_head at to o os apart in
    let k : ℕ = free at o in
    let few : k ≤ length ns = omega (arith, h.0, h.1, even, counts_fit o.pts to os h.1 h.2) in
    let left : length (drop k ns) ≡ length ns - k = length-drop k ns in
    let rest : Woven o.pts to (drop k ns) os (merged o.pts (drop k ns) os) = merged_woven o.pts to (drop k ns) os others.1 h.2 (omega (arith, h.0, even, left, few)) in
    let one : Woven (at + k) to (drop k ns) (o ∷ os) (o.event ∷ merged o.pts (drop k ns) os) = woven_other (at + k) to (drop k ns) o os (merged o.pts (drop k ns) os) others.0 (omega (arith, h.0)) rest in
    subst (λ (l : List (List ℕ)). Woven at to l (o ∷ os) (merged at ns (o ∷ os))) (take-append-drop k ns)
    (woven_news at to (at + k) (take k ns) (drop k ns) (o ∷ os) (o.event ∷ merged o.pts (drop k ns) os) (omega (arith, length-take-le k ns few)) one)

pub fitting_woven : (from to : ℕ) (ns : List (List ℕ)) (os : List Placed) → AreOthers os → Fits from to ns os → Woven from to ns os (merged from ns os)
fitting_woven from to ns os others fits = merged_woven from to ns os others fits.apart fits.even
