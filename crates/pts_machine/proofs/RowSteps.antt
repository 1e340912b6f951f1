-- A table in order, row by row.
use Rattle.std.proofs.Common.{◌≡◌, ℕ, suc, ◌+◌, List, [], ◌∷◌, length, set, T, refl, sym, ap, ◌∙◌, subst, arith}
use Rattle.std.specs.List.{insert as insert_at}
use Rattle.std.specs.Ordering.{nat_cmp}
use Rattle.std.specs.declared.cmp.Ordering.{Ordering}
use Rattle.std.specs.declared.cmp.Ordering.TheVariants.{Less, Equal, Greater}
use Rattle.std.specs.Cmp.Lexicographic.{slice_cmp, nat_list_cmp_total}
use Rattle.std.specs.FinMap.{is_sorted, len, empty, empty_of_len, len-entries, put, insert, entries-insert, entries-from_sorted, same_entries_map, slice_cmp-IsAntisymmetric, nat_cmp-IsAntisymmetric}
use Rattle.std.specs.FinMap.Entries.{by_order, is_sorted-put}
use Rattle.box_events.specs.declared.settings.Setting.{Setting}
use Rattle.pts_machine.specs.declared.table.Spot.TheVariants.{At, Before}
use Rattle.pts_machine.specs.Rows.{pairs, AreSorted, values_of, spot_from}

never_before : (i k : ℕ) → Before i ≡ At k → ⊥
never_before i k e = cc

never_at : (i k : ℕ) → At i ≡ Before k → ⊥
never_at i k e = cc

at_is : (i k : ℕ) → At i ≡ At k → k ≡ i + 0
at_is i k e = let same : i ≡ k = cc in omega arith

before_is : (i k : ℕ) → Before i ≡ Before k → k ≡ i + 0
before_is i k e = let same : i ≡ k = cc in omega arith

pub put_at : (xs : List Setting) (s : Setting) (i k : ℕ) → spot_from i xs s.key ≡ At k → (n : ℕ) × (k ≡ i + n) × (put (slice_cmp nat_cmp) s.key s.value (pairs xs) ≡ pairs (set xs n s))
put_at [] s i k e = absurd (never_before i k e)
put_at (x ∷ xs) s i k e =
    elim (slice_cmp nat_cmp s.key x.key) as (λ (o : Ordering). slice_cmp nat_cmp s.key x.key ≡ o → by_order o (Before i) (At i) (spot_from (i + 1) xs s.key) ≡ At k
    → (n : ℕ) × (k ≡ i + n) × (by_order o ((s.key, s.value) ∷ (x.key, x.value) ∷ pairs xs) ((x.key, s.value) ∷ pairs xs) ((x.key, x.value) ∷ put (slice_cmp nat_cmp) s.key s.value (pairs xs)) ≡ pairs (set (x ∷ xs) n s))) [
      | Less ↦ λ o h. absurd (never_before i k h)
      | Equal ↦ λ o h. (0, at_is i k h, ap (λ (q : List ℕ). (q, s.value) ∷ pairs xs) (sym (slice_cmp-IsAntisymmetric nat_cmp-IsAntisymmetric s.key x.key o)))
      | Greater ↦ λ o h.
          let more = put_at xs s (i + 1) k h in
          (suc more.0, (let is = more.1 in omega arith), ap (λ (ps : List (List ℕ × List ℕ)). (x.key, x.value) ∷ ps) more.2)
    ] refl e

pub put_before : (xs : List Setting) (s : Setting) (i k : ℕ) → spot_from i xs s.key ≡ Before k → (n : ℕ) × (k ≡ i + n) × (put (slice_cmp nat_cmp) s.key s.value (pairs xs) ≡ pairs (insert_at xs n s))
put_before [] s i k e = (0, before_is i k e, refl)
put_before (x ∷ xs) s i k e =
    elim (slice_cmp nat_cmp s.key x.key) as (λ (o : Ordering). by_order o (Before i) (At i) (spot_from (i + 1) xs s.key) ≡ Before k
    → (n : ℕ) × (k ≡ i + n) × (by_order o ((s.key, s.value) ∷ (x.key, x.value) ∷ pairs xs) ((x.key, s.value) ∷ pairs xs) ((x.key, x.value) ∷ put (slice_cmp nat_cmp) s.key s.value (pairs xs)) ≡ pairs (insert_at (x ∷ xs) n s))) [
      | Less ↦ λ h. (0, before_is i k h, refl)
      | Equal ↦ λ h. absurd (never_at i k h)
      | Greater ↦ λ h.
          let more = put_before xs s (i + 1) k h in
          (suc more.0, (let is = more.1 in omega arith), ap (λ (ps : List (List ℕ × List ℕ)). (x.key, x.value) ∷ ps) more.2)
    ] e

pub set_rows : (xs : List Setting) (s : Setting) (k : ℕ) → At k ≡ spot_from 0 xs s.key → pairs (set xs k s) ≡ put (slice_cmp nat_cmp) s.key s.value (pairs xs)
set_rows xs s k e =
    let p = put_at xs s 0 k (sym e) in
    let same : p.0 ≡ k = (let is = p.1 in omega arith) in
    ap (λ (n : ℕ). pairs (set xs n s)) (sym same) ∙ sym p.2

pub insert_rows : (xs : List Setting) (s : Setting) (k : ℕ) → Before k ≡ spot_from 0 xs s.key → pairs (insert_at xs k s) ≡ put (slice_cmp nat_cmp) s.key s.value (pairs xs)
insert_rows xs s k e =
    let p = put_before xs s 0 k (sym e) in
    let same : p.0 ≡ k = (let is = p.1 in omega arith) in
    ap (λ (n : ℕ). pairs (insert_at xs n s)) (sym same) ∙ sym p.2

-- a put in the list is an insert in the table
pub sorted_after : (xs ys : List Setting) (s : Setting) → pairs ys ≡ put (slice_cmp nat_cmp) s.key s.value (pairs xs) → AreSorted xs → AreSorted ys
sorted_after xs ys s is sorted = subst (λ (ps : List (List ℕ × List ℕ)). T (is_sorted (slice_cmp nat_cmp) ps)) (sym is) (is_sorted-put (slice_cmp nat_cmp) nat_list_cmp_total s.key s.value (pairs xs) sorted)

pub values_after : (xs ys : List Setting) (s : Setting) → pairs ys ≡ put (slice_cmp nat_cmp) s.key s.value (pairs xs) → AreSorted xs → values_of ys ≡ insert (values_of xs) s.key s.value
values_after xs ys s is sorted = same_entries_map _ _ (
    entries-from_sorted (slice_cmp nat_cmp) (pairs ys) (sorted_after xs ys s is sorted) ∙ is
    ∙ ap (put (slice_cmp nat_cmp) s.key s.value) (sym (entries-from_sorted (slice_cmp nat_cmp) (pairs xs) sorted))
    ∙ sym (entries-insert nat_list_cmp_total (values_of xs) s.key s.value))

pub length-pairs : (xs : List Setting) → length (pairs xs) ≡ length xs
length-pairs [] = refl
length-pairs (x ∷ xs) = ap suc (length-pairs xs)

-- there are as many keys as rows
pub len_values : (xs : List Setting) → AreSorted xs → len (values_of xs) ≡ length xs
len_values xs sorted = len-entries (values_of xs) ∙ ap (λ (ps : List (List ℕ × List ℕ)). length ps) (entries-from_sorted (slice_cmp nat_cmp) (pairs xs) sorted) ∙ length-pairs xs

pub values_none : values_of [] ≡ empty
values_none = empty_of_len (values_of []) (len-entries (values_of []) ∙ ap (λ (ps : List (List ℕ × List ℕ)). length ps) (entries-from_sorted (slice_cmp nat_cmp) [] tt))
