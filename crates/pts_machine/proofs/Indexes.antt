-- Items in order of start, about the index of a start.
use Rattle.std.proofs.Common.{◌≡◌, ℕ, zero, suc, ◌+◌, ◌<◌, ◌≤◌, List, [], ◌∷◌, length, get_or, drop, Some, None, Bool, true, false, not, T, leb, ◌&&◌, refl, sym, ap, ◌∙◌, subst, arith, suc-add, Result, Ok, Err, inl, inr, slice_get}
use Rattle.std.proofs.lemmas.Option.{same_Some}
use Rattle.std.specs.List.{HoldsAt, AllWithin, insert as insert_at, remove as without}
use Rattle.std.specs.List.Sorted.{IsBinarySearchResult, IsSearchInRange}
use Rattle.std.specs.Ordering.{nat_cmp, is_lt, eq_by_cmp}
use Rattle.std.specs.declared.cmp.Ordering.TheVariants.{Less, Equal, Greater}
use Rattle.std.specs.Cmp.{nat_cmp_total}
use Rattle.std.specs.FinMap.{find, put}
use Rattle.std.specs.FinMap.Entries.{below_all, where_key}
use Rattle.std.proofs.lemmas.Bool.Decides.{nat_tests}
use Rattle.std.proofs.lemmas.Bool.{cases_lt}
use Rattle.std.proofs.lemmas.List.Sorted.{searchable_from_sorted}
use Rattle.pts_machine.specs.inner.Indexes.{AreRising, IsIndex}

-- ---- the order of starts

less_of : (a b : ℕ) → a < b → nat_cmp a b ≡ Less
less_of a b lt = grind (arith, nat_tests)

greater_of : (a b : ℕ) → b < a → nat_cmp a b ≡ Greater
greater_of a b lt = grind (arith, nat_tests)

equal_of : (a b : ℕ) → b ≡ a → nat_cmp a b ≡ Equal
equal_of a b e = grind (arith, nat_tests)

is_below : (a b : ℕ) → T (is_lt (nat_cmp a b)) → a < b
is_below a b h = grind (arith, nat_tests)

not_below : (a b : ℕ) → a < b → is_lt (nat_cmp b a) ≡ false
not_below a b lt = grind (arith, nat_tests)

from_less : (a b : ℕ) → nat_cmp a b ≡ Less → a < b
from_less a b e = grind (arith, nat_tests)

from_greater : (a b : ℕ) → nat_cmp a b ≡ Greater → b < a
from_greater a b e = grind (arith, nat_tests)

from_equal : (a b : ℕ) → nat_cmp a b ≡ Equal → a ≡ b
from_equal a b e = grind (arith, nat_tests)

is_from : (p q : ℕ) → p ≤ q → leb p q ≡ true
is_from p q le = grind (arith, nat_tests)

not_from : (p q : ℕ) → q < p → leb p q ≡ false
not_from p q lt = grind (arith, nat_tests)

both : (a b : Bool) → T (a && b) → T a × T b
both true b h = (tt, h)
both false b h = absurd h

-- an item below all others is below each of them
pub ahead : {X : Type 0} (k : ℕ) (es : List (ℕ × X)) (i : ℕ) (d : ℕ × X) → T (below_all nat_cmp k es) → i < length es → k < (get_or es i d).0
ahead k [] i d below lt = absurd (omega arith)
ahead k (e ∷ es) zero d below lt = is_below k e.0 (both _ _ below).0
ahead k (e ∷ es) (suc i) d below lt = ahead k es i d (both _ _ below).1 (omega arith)

-- ---- where a search by halves ends

neighbours : {X : Type 0} (es : List (ℕ × X)) → AreRising es → (i : ℕ) (d : ℕ × X) → 0 ≤ i → i + 1 < length es → is_lt (nat_cmp (get_or es (i + 1) d).0 (get_or es i d).0) ≡ false
neighbours [] rising i d le lt = absurd (omega arith)
neighbours (e ∷ es) rising zero d le lt = not_below e.0 (get_or es 0 d).0 (ahead e.0 es 0 d (both _ _ rising).0 (omega arith))
neighbours (e ∷ es) rising (suc i) d le lt = rw suc-add (neighbours es (both _ _ rising).1 i d (omega arith) (omega arith))

pub in_range : (r : Result ℕ ℕ) (m n : ℕ) → m ≡ n → IsSearchInRange r m → IsSearchInRange r n
in_range r m n e within = subst (λ (k : ℕ). IsSearchInRange r k) e within

pub is_index : {X : Type 0} (es : List (ℕ × X)) (q : ℕ) (r : Result ℕ ℕ) → AreRising es → IsSearchInRange r (length es) → IsBinarySearchResult (λ e. nat_cmp e.0 q) es r → IsIndex es q r
is_index es q (Ok i) rising within at = (within, λ d. from_equal _ q (at d))
is_index es q (Err i) rising within at =
    let parted = at (searchable_from_sorted nat_cmp_total (λ e. e.0) es q (neighbours es rising)) in
    (within, (λ k d a b. from_less _ q (parted.0 k d a b), λ k d a b. from_greater _ q (parted.1 k d a b)))

-- ---- parts of a list by their starts

abbrev Below : {X : Type 0} → List (ℕ × X) → ℕ → ℕ → Type 0
Below es q i = AllWithin (λ e. e.0 < q) es 0 i

abbrev Above : {X : Type 0} → List (ℕ × X) → ℕ → ℕ → Type 0
Above es q i = AllWithin (λ e. q < e.0) es i (length es)

rest_below : {X : Type 0} (e : ℕ × X) (es : List (ℕ × X)) (q i : ℕ) → Below (e ∷ es) q (suc i) → Below es q i
rest_below e es q i h k d a b = h (suc k) d (omega arith) (omega arith)

rest_above : {X : Type 0} (e : ℕ × X) (es : List (ℕ × X)) (q i : ℕ) → Above (e ∷ es) q (suc i) → Above es q i
rest_above e es q i h k d a b = h (suc k) d (omega arith) (omega arith)

-- where the item at an index has the start, those before it start below, and those after it above
pub before_it : {X : Type 0} (es : List (ℕ × X)) (q i : ℕ) → AreRising es → i < length es → HoldsAt (λ e. e.0 ≡ q) es i → Below es q i
before_it [] q i rising lt at k d a b = absurd (omega arith)
before_it (e ∷ es) q zero rising lt at k d a b = absurd (omega arith)
before_it (e ∷ es) q (suc i) rising lt at zero d a b = let here : (get_or es i d).0 ≡ q = at d in let less : e.0 < (get_or es i d).0 = ahead e.0 es i d (both _ _ rising).0 (omega arith) in omega arith
before_it (e ∷ es) q (suc i) rising lt at (suc k) d a b = before_it es q i (both _ _ rising).1 (omega arith) at k d (omega arith) (omega arith)

pub after_it : {X : Type 0} (es : List (ℕ × X)) (q i : ℕ) → AreRising es → i < length es → HoldsAt (λ e. e.0 ≡ q) es i → Above es q (suc i)
after_it [] q i rising lt at k d a b = absurd (omega arith)
after_it (e ∷ es) q i rising lt at zero d a b = absurd (omega arith)
after_it (e ∷ es) q zero rising lt at (suc k) d a b = let here : e.0 ≡ q = at d in let less : e.0 < (get_or es k d).0 = ahead e.0 es k d (both _ _ rising).0 (omega arith) in omega arith
after_it (e ∷ es) q (suc i) rising lt at (suc k) d a b = after_it es q i (both _ _ rising).1 (omega arith) at k d (omega arith) (omega arith)

-- ---- what is found

find_none : {X : Type 0} (es : List (ℕ × X)) (q : ℕ) → Above es q 0 → find nat_cmp q es ≡ None
find_none [] q above = refl
find_none (e ∷ es) q above = rw (less_of q e.0 (above 0 e (omega arith) (omega arith))) (find_none es q (λ k d a b. above (suc k) d (omega arith) (omega arith)))

pub missed : {X : Type 0} (es : List (ℕ × X)) (q i : ℕ) → i ≤ length es → Below es q i → Above es q i → find nat_cmp q es ≡ None
missed [] q i le below above = refl
missed (e ∷ es) q zero le below above = find_none (e ∷ es) q above
missed (e ∷ es) q (suc i) le below above = rw (greater_of q e.0 (below 0 e (omega arith) (omega arith))) (missed es q i (omega arith) (rest_below e es q i below) (rest_above e es q i above))

pub found : {X : Type 0} (es : List (ℕ × X)) (q i : ℕ) (d : ℕ × X) → i < length es → Below es q i → HoldsAt (λ e. e.0 ≡ q) es i → find nat_cmp q es ≡ Some (get_or es i d).1
found [] q i d lt below at = absurd (omega arith)
found (e ∷ es) q zero d lt below at = rw (equal_of q e.0 (at d)) refl
found (e ∷ es) q (suc i) d lt below at = rw (greater_of q e.0 (below 0 e (omega arith) (omega arith))) (found es q i d (omega arith) (rest_below e es q i below) at)

-- nothing starts below the first
pub below_first : {X : Type 0} (es : List (ℕ × X)) (e : ℕ × X) (q : ℕ) → AreRising es → Some e ≡ slice_get es 0 → q < e.0 → find nat_cmp q es ≡ None
below_first [] e q rising is lt = refl
below_first {X} (x ∷ es) e q rising is lt =
    let same : e.0 ≡ x.0 = ap (λ (y : ℕ × X). y.0) (same_Some e x is) in
    rw (less_of q x.0 (omega arith)) (find_none es q (λ k d a b. let past : x.0 < (get_or es k d).0 = ahead x.0 es k d (both _ _ rising).0 b in omega arith))

-- ---- one more, one less, and without those below

pub put_there : {X : Type 0} (es : List (ℕ × X)) (q i : ℕ) (v : X) → i ≤ length es → Below es q i → Above es q i → insert_at es i (q, v) ≡ put nat_cmp q v es
put_there [] q zero v le below above = refl
put_there [] q (suc i) v le below above = absurd (omega arith)
put_there (e ∷ es) q zero v le below above = rw (less_of q e.0 (above 0 e (omega arith) (omega arith))) refl
put_there {X} (e ∷ es) q (suc i) v le below above =
    rw (greater_of q e.0 (below 0 e (omega arith) (omega arith))) (ap (λ (xs : List (ℕ × X)). e ∷ xs) (put_there es q i v (omega arith) (rest_below e es q i below) (rest_above e es q i above)))

all_others : {X : Type 0} (es : List (ℕ × X)) (q : ℕ) → Above es q 0 → es ≡ where_key nat_cmp (λ k. not (eq_by_cmp nat_cmp q k)) es
all_others [] q above = refl
all_others {X} (e ∷ es) q above =
    rw (less_of q e.0 (above 0 e (omega arith) (omega arith))) (ap (λ (xs : List (ℕ × X)). e ∷ xs) (all_others es q (λ k d a b. above (suc k) d (omega arith) (omega arith))))

pub others : {X : Type 0} (es : List (ℕ × X)) (q i : ℕ) → i < length es → Below es q i → HoldsAt (λ e. e.0 ≡ q) es i → Above es q (suc i) → without es i ≡ where_key nat_cmp (λ k. not (eq_by_cmp nat_cmp q k)) es
others [] q i lt below at above = absurd (omega arith)
others (e ∷ es) q zero lt below at above = rw (equal_of q e.0 (at e)) (all_others es q (rest_above e es q 0 above))
others {X} (e ∷ es) q (suc i) lt below at above =
    rw (greater_of q e.0 (below 0 e (omega arith) (omega arith))) (ap (λ (xs : List (ℕ × X)). e ∷ xs) (others es q i (omega arith) (rest_below e es q i below) at (rest_above e es q (suc i) above)))

abbrev From : {X : Type 0} → List (ℕ × X) → ℕ → ℕ → Type 0
From es q i = AllWithin (λ e. q ≤ e.0) es i (length es)

pub from_it : {X : Type 0} (es : List (ℕ × X)) (q i : ℕ) → AreRising es → i < length es → HoldsAt (λ e. e.0 ≡ q) es i → From es q i
from_it es q i rising lt at k d a b = elim (cases_lt i k) [
  | inl less ↦ let past : q < (get_or es k d).0 = after_it es q i rising lt at k d (omega arith) b in omega arith
  | inr le ↦
      let same : i ≡ k = omega arith in
      let here : (get_or es k d).0 ≡ q = ap (λ (n : ℕ). (get_or es n d).0) (sym same) ∙ at d in
      omega arith
]

all_from : {X : Type 0} (es : List (ℕ × X)) (q : ℕ) → From es q 0 → es ≡ where_key nat_cmp (leb q) es
all_from [] q h = refl
all_from {X} (e ∷ es) q h =
    rw (is_from q e.0 (h 0 e (omega arith) (omega arith))) (ap (λ (xs : List (ℕ × X)). e ∷ xs) (all_from es q (λ k d a b. h (suc k) d (omega arith) (omega arith))))

pub dropped : {X : Type 0} (es : List (ℕ × X)) (q i : ℕ) → i ≤ length es → Below es q i → From es q i → drop i es ≡ where_key nat_cmp (leb q) es
dropped [] q zero le below h = refl
dropped [] q (suc i) le below h = absurd (omega arith)
dropped (e ∷ es) q zero le below h = all_from (e ∷ es) q h
dropped (e ∷ es) q (suc i) le below h =
    rw (not_from q e.0 (below 0 e (omega arith) (omega arith))) (dropped es q i (omega arith) (rest_below e es q i below) (λ k d a b. h (suc k) d (omega arith) (omega arith)))
