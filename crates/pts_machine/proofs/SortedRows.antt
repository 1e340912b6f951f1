-- Where a search by halves ends among sorted rows.
use Rattle.std.proofs.Common.{◌≡◌, ℕ, zero, suc, ◌+◌, ◌<◌, ◌≤◌, Bool, true, false, cond, ◌&&◌, T, List, [], ◌∷◌, length, get_or, Some, None, refl, sym, ap, ◌∙◌, suc-add, arith}
use Rattle.std.specs.List.{HoldsAt}
use Rattle.std.specs.List.Sorted.{IsNonDecreasingBy, IsPartitionPoint}
use Rattle.std.specs.Ordering.{nat_cmp, is_lt, is_eq, ordering_index, ordering_reverse}
use Rattle.std.specs.declared.cmp.Ordering.{Ordering}
use Rattle.std.specs.declared.cmp.Ordering.TheVariants.{Less, Equal, Greater}
use Rattle.std.specs.Cmp.{alike_right}
use Rattle.std.specs.Cmp.Lexicographic.{slice_cmp, nat_list_cmp_total}
use Rattle.std.specs.FinMap.{find}
use Rattle.std.specs.FinMap.Entries.{by_order, below_all}
use Rattle.std.proofs.lemmas.List.Sorted.{searchable_from_sorted}
use Rattle.box_events.specs.declared.settings.Setting.{Setting}
use Rattle.pts_machine.specs.declared.table.Spot.TheVariants.{At, Before}
use Rattle.pts_machine.specs.Rows.{pairs, AreSorted, spot_from}

-- byte order of keys
abbrev order : List ℕ → List ℕ → Ordering
order = slice_cmp nat_cmp

turned : (a b : List ℕ) (o : Ordering) → order a b ≡ o → order b a ≡ ordering_reverse o
turned a b o e = nat_list_cmp_total.antisymm b a ∙ ap ordering_reverse e

both : (a b : Bool) → T (a && b) → T a × T b
both true b h = (tt, h)
both false b h = absurd h

less : (o : Ordering) → T (is_lt o) → o ≡ Less
less Less h = refl
less Equal h = absurd h
less Greater h = absurd h

-- ---- the rows after a row

below_at : (k : List ℕ) (xs : List Setting) (i : ℕ) (d : Setting) → T (below_all order k (pairs xs)) → i < length xs → order k (get_or xs i d).key ≡ Less
below_at k [] i d below lt = absurd (omega arith)
below_at k (x ∷ xs) zero d below lt = less (order k x.key) (both _ _ below).0
below_at k (x ∷ xs) (suc i) d below lt = below_at k xs i d (both _ _ below).1 (omega arith)

neighbours_rise : (xs : List Setting) → AreSorted xs → (i : ℕ) (d : Setting) → 0 ≤ i → i + 1 < length xs → is_lt (order (get_or xs (i + 1) d).key (get_or xs i d).key) ≡ false
neighbours_rise [] sorted i d le lt = absurd (omega arith)
neighbours_rise (x ∷ xs) sorted zero d le lt = ap is_lt (turned x.key (get_or xs 0 d).key Less (below_at x.key xs 0 d (both _ _ sorted).0 (omega arith)))
neighbours_rise (x ∷ xs) sorted (suc i) d le lt = rw suc-add (neighbours_rise xs (both _ _ sorted).1 i d (omega arith) (omega arith))

-- so the answers of a search rise
answers_rise : (xs : List Setting) (k : List ℕ) → AreSorted xs → IsNonDecreasingBy (λ x. ordering_index (order x.key k)) xs
answers_rise xs k sorted = searchable_from_sorted nat_list_cmp_total (λ x. x.key) xs k (neighbours_rise xs sorted)

-- ---- the place that a search finds

found_from : (n : ℕ) (xs : List Setting) (k : List ℕ) (i at : ℕ) → at ≡ n + i → AreSorted xs → i < length xs → HoldsAt (λ x. order x.key k ≡ Equal) xs i → At at ≡ spot_from n xs k
found_from n [] k i at is sorted lt same = absurd (omega arith)
found_from n (x ∷ xs) k zero at is sorted lt same = rw (turned x.key k Equal (same x)) (ap At (omega arith))
found_from n (x ∷ xs) k (suc i) at is sorted lt same =
    let rest = both _ _ sorted in
    let ahead : order x.key k ≡ Less = sym (alike_right nat_list_cmp_total (get_or xs i x).key k x.key (same x)) ∙ below_at x.key xs i x rest.0 (omega arith) in
    rw (turned x.key k Less ahead) (found_from (n + 1) xs k i at (omega arith) rest.1 (omega arith) same)

pub spot_found : (xs : List Setting) (k : List ℕ) (i : ℕ) → AreSorted xs → i < length xs → HoldsAt (λ x. order x.key k ≡ Equal) xs i → At i ≡ spot_from 0 xs k
spot_found xs k i = found_from 0 xs k i i (omega arith)

missed_from : (n : ℕ) (xs : List Setting) (k : List ℕ) (i at : ℕ) → at ≡ n + i → i ≤ length xs → IsPartitionPoint (λ x. order x.key k ≡ Less) (λ x. order x.key k ≡ Greater) xs i → Before at ≡ spot_from n xs k
missed_from n [] k i at is le parted = ap Before (omega arith)
missed_from n (x ∷ xs) k zero at is le parted = rw (turned x.key k Greater (parted.1 0 x (omega arith) (omega arith))) (ap Before (omega arith))
missed_from n (x ∷ xs) k (suc i) at is le parted =
    let rest : IsPartitionPoint (λ y. order y.key k ≡ Less) (λ y. order y.key k ≡ Greater) xs i =
    (λ j d a b. parted.0 (suc j) d (omega arith) (omega arith), λ j d a b. parted.1 (suc j) d (omega arith) (omega arith)) in
    rw (turned x.key k Less (parted.0 0 x (omega arith) (omega arith))) (missed_from (n + 1) xs k i at (omega arith) (omega arith) rest)

pub spot_missed : (xs : List Setting) (k : List ℕ) (i : ℕ) → AreSorted xs → i ≤ length xs
    → (IsNonDecreasingBy (λ x. ordering_index (order x.key k)) xs → IsPartitionPoint (λ x. order x.key k ≡ Less) (λ x. order x.key k ≡ Greater) xs i)
    → Before i ≡ spot_from 0 xs k
spot_missed xs k i sorted le parted = missed_from 0 xs k i i (omega arith) le (parted (answers_rise xs k sorted))

-- ---- the value at a place

value_at : (n : ℕ) (xs : List Setting) (k : List ℕ) (i : ℕ) → At i ≡ spot_from n xs k → (j : ℕ) × (i ≡ n + j) × HoldsAt (λ x. find order k (pairs xs) ≡ Some x.value) xs j
value_at n [] k i e = absurd cc
value_at n (x ∷ xs) k i e =
    elim (order k x.key) as (λ (o : Ordering). At i ≡ by_order o (Before n) (At n) (spot_from (n + 1) xs k) → (j : ℕ) × (i ≡ n + j) × HoldsAt (λ y. cond (is_eq o) (Some x.value) (find order k (pairs xs)) ≡ Some y.value) (x ∷ xs) j) [
      | Less ↦ λ h. absurd cc
      | Equal ↦ λ h. (0, (let same : i ≡ n = cc in omega arith), λ d. refl)
      | Greater ↦ λ h.
          let rest = value_at (n + 1) xs k i h in
          (suc rest.0, (let is = rest.1 in omega arith), rest.2)
    ] e

pub value_found : (xs : List Setting) (k : List ℕ) (i : ℕ) → At i ≡ spot_from 0 xs k → HoldsAt (λ x. find order k (pairs xs) ≡ Some x.value) xs i
value_found xs k i e d =
    let found = value_at 0 xs k i e in
    let same : found.0 ≡ i = (let is = found.1 in omega arith) in
    found.2 d ∙ ap (λ (j : ℕ). Some (get_or xs j d).value) same

-- a key below one that is below all
none_below : (k q : List ℕ) (xs : List Setting) → order k q ≡ Less → T (below_all order q (pairs xs)) → find order k (pairs xs) ≡ None
none_below k q [] lt below = refl
none_below k q (x ∷ xs) lt below =
    let parts = both (is_lt (order q x.key)) _ below in
    rw (nat_list_cmp_total.trans k q x.key lt (less _ parts.0)) (none_below k q xs lt parts.1)

none_from : (n : ℕ) (xs : List Setting) (k : List ℕ) (i : ℕ) → AreSorted xs → Before i ≡ spot_from n xs k → find order k (pairs xs) ≡ None
none_from n [] k i sorted e = refl
none_from n (x ∷ xs) k i sorted e =
    let rest = both (below_all order x.key (pairs xs)) _ sorted in
    elim (order k x.key) as (λ (o : Ordering). order k x.key ≡ o → Before i ≡ by_order o (Before n) (At n) (spot_from (n + 1) xs k) → cond (is_eq o) (Some x.value) (find order k (pairs xs)) ≡ None) [
      | Less ↦ λ lt h. none_below k x.key xs lt rest.0
      | Equal ↦ λ same h. absurd cc
      | Greater ↦ λ gt h. none_from (n + 1) xs k i rest.1 h
    ] refl e

pub value_missed : (xs : List Setting) (k : List ℕ) (i : ℕ) → AreSorted xs → Before i ≡ spot_from 0 xs k → find order k (pairs xs) ≡ None
value_missed xs k i = none_from 0 xs k i
