-- A list of items in order of start as a map by starts.
use Rattle.std.proofs.Common.{◌≡◌, ℕ, ◌<◌, ◌≤◌, List, [], ◌∷◌, length, get_or, drop, Option, Some, None, Bool, true, false, cond, not, leb, refl, sym, ap, ◌∙◌, subst, arith, Ok, Err, inl, inr, slice_get}
use Rattle.std.proofs.lemmas.Bool.Decides.{nat_tests}
use Rattle.std.proofs.lemmas.Bool.{cases_lt}
use Rattle.std.proofs.lemmas.Option.{none-some, same_Some}
use Rattle.std.specs.List.{insert as insert_at, remove as without}
use Rattle.std.specs.Ordering.{nat_cmp, eq_by_cmp}
use Rattle.std.specs.Cmp.{nat_cmp_total}
use Rattle.std.specs.FinMap.{FinMap, get, len, find, put, insert, remove, retain_keys, from_sorted, entries-from_sorted, entries-insert, same_entries_map, same_map, get-from_sorted, get-remove, get-retain_keys, len-entries, empty, empty_of_len, nat_cmp-IsAntisymmetric}
use Rattle.std.specs.FinMap.Entries.{where_key, find-where_key, is_sorted-put, is_sorted-where_key}
use Rattle.pts_machine.specs.inner.Indexes.{AreRising, IsIndex}
use Rattle.pts_machine.proofs.Maps.{alike}
use Rattle.pts_machine.proofs.Indexes.{before_it, after_it, from_it, below_first, found, missed, put_there, others, dropped}

pub count_of : {X : Type 0} (es : List (ℕ × X)) (m : FinMap nat_cmp X) → AreRising es → from_sorted es ≡ m → len m ≡ length es
count_of {X} es m rising seen = ap len (sym seen) ∙ len-entries (from_sorted {R = nat_cmp} es) ∙ ap (λ (xs : List (ℕ × X)). length xs) (entries-from_sorted nat_cmp es rising)

pub map_none : {X : Type 0} → from_sorted {X = X} {R = nat_cmp} [] ≡ empty
map_none {X} = empty_of_len (from_sorted {X = X} {R = nat_cmp} []) (len-entries (from_sorted {X = X} {R = nat_cmp} []) ∙ ap (λ (xs : List (ℕ × X)). length xs) (entries-from_sorted nat_cmp [] tt))

-- an item put in the list is an item more in the map
pub rising_put : {X : Type 0} (es ys : List (ℕ × X)) (k : ℕ) (v : X) → AreRising es → ys ≡ put nat_cmp k v es → AreRising ys
rising_put {X} es ys k v rising is = subst (λ (xs : List (ℕ × X)). AreRising xs) (sym is) (is_sorted-put nat_cmp nat_cmp_total k v es rising)

pub map_put : {X : Type 0} (es ys : List (ℕ × X)) (k : ℕ) (v : X) (m : FinMap nat_cmp X) → AreRising es → ys ≡ put nat_cmp k v es → from_sorted es ≡ m → from_sorted ys ≡ insert m k v
map_put {X} es ys k v m rising is seen =
    same_entries_map _ _ (entries-from_sorted nat_cmp ys (rising_put es ys k v rising is) ∙ is ∙ ap (put nat_cmp k v) (sym (entries-from_sorted nat_cmp es rising)) ∙ sym (entries-insert nat_cmp_total (from_sorted {R = nat_cmp} es) k v))
    ∙ ap (λ (n : FinMap nat_cmp X). insert n k v) seen

-- the items that pass a test are the map's that pass it
pub rising_where : {X : Type 0} (p : ℕ → Bool) (es ys : List (ℕ × X)) → AreRising es → ys ≡ where_key nat_cmp p es → AreRising ys
rising_where {X} p es ys rising is = subst (λ (xs : List (ℕ × X)). AreRising xs) (sym is) (is_sorted-where_key nat_cmp p es rising)

get_where : {X : Type 0} (p : ℕ → Bool) (es ys : List (ℕ × X)) (q : ℕ) → AreRising es → ys ≡ where_key nat_cmp p es → get (from_sorted {R = nat_cmp} ys) q ≡ cond (p q) (get (from_sorted {R = nat_cmp} es) q) None
get_where {X} p es ys q rising is =
    get-from_sorted nat_cmp ys q (rising_where p es ys rising is) ∙ ap (find nat_cmp q) is ∙ find-where_key nat_cmp p q (alike p q) es
    ∙ ap (λ (o : Option X). cond (p q) o None) (sym (get-from_sorted nat_cmp es q rising))

pub map_where : {X : Type 0} (p : ℕ → Bool) (es ys : List (ℕ × X)) (m : FinMap nat_cmp X) → AreRising es → ys ≡ where_key nat_cmp p es → from_sorted es ≡ m → from_sorted ys ≡ retain_keys m p
map_where {X} p es ys m rising is seen =
    same_map nat_cmp_total nat_cmp-IsAntisymmetric _ _ (λ q. get_where p es ys q rising is ∙ sym (get-retain_keys (from_sorted es) p q (alike p q)))
    ∙ ap (λ (n : FinMap nat_cmp X). retain_keys n p) seen

turned : {A : Type 0} (b : Bool) (o : Option A) → cond (not b) o None ≡ cond b None o
turned true o = refl
turned false o = refl

same_test : (a b : ℕ) → eq_by_cmp nat_cmp a b ≡ eq_by_cmp nat_cmp b a
same_test a b = grind (arith, nat_tests)

map_others : {X : Type 0} (k : ℕ) (es ys : List (ℕ × X)) (m : FinMap nat_cmp X) → AreRising es → ys ≡ where_key nat_cmp (λ x. not (eq_by_cmp nat_cmp k x)) es → from_sorted es ≡ m → from_sorted ys ≡ remove m k
map_others {X} k es ys m rising is seen =
    same_map nat_cmp_total nat_cmp-IsAntisymmetric _ _ (λ q.
    get_where (λ x. not (eq_by_cmp nat_cmp k x)) es ys q rising is ∙ turned (eq_by_cmp nat_cmp k q) (get (from_sorted {R = nat_cmp} es) q)
    ∙ ap (λ (b : Bool). cond b None (get (from_sorted {R = nat_cmp} es) q)) (same_test k q) ∙ sym (get-remove nat_cmp_total (from_sorted es) k q))
    ∙ ap (λ (n : FinMap nat_cmp X). remove n k) seen

-- ---- by the index of a start

pub none_held : {X : Type 0} (es : List (ℕ × X)) (q i : ℕ) (m : FinMap nat_cmp X) → AreRising es → from_sorted es ≡ m → IsIndex es q (Err i) → get m q ≡ None
none_held {X} es q i m rising seen p = ap (λ (n : FinMap nat_cmp X). get n q) (sym seen) ∙ get-from_sorted nat_cmp es q rising ∙ missed es q i p.0 p.1.0 p.1.1

pub is_held : {X : Type 0} (es : List (ℕ × X)) (q i : ℕ) (m : FinMap nat_cmp X) (d : ℕ × X) → AreRising es → from_sorted es ≡ m → IsIndex es q (Ok i) → get m q ≡ Some (get_or es i d).1
is_held {X} es q i m d rising seen p = ap (λ (n : FinMap nat_cmp X). get n q) (sym seen) ∙ get-from_sorted nat_cmp es q rising ∙ found es q i d p.0 (before_it es q i rising p.0 p.1) p.1

pub put_at : {X : Type 0} (es : List (ℕ × X)) (q i : ℕ) (v : X) → IsIndex es q (Err i) → insert_at es i (q, v) ≡ put nat_cmp q v es
put_at es q i v p = put_there es q i v p.0 p.1.0 p.1.1

others_at : {X : Type 0} (es : List (ℕ × X)) (q i : ℕ) → AreRising es → IsIndex es q (Ok i) → without es i ≡ where_key nat_cmp (λ k. not (eq_by_cmp nat_cmp q k)) es
others_at es q i rising p = others es q i p.0 (before_it es q i rising p.0 p.1) p.1 (after_it es q i rising p.0 p.1)

pub rising_without : {X : Type 0} (es : List (ℕ × X)) (q i : ℕ) → AreRising es → IsIndex es q (Ok i) → AreRising (without es i)
rising_without es q i rising p = rising_where (λ k. not (eq_by_cmp nat_cmp q k)) es (without es i) rising (others_at es q i rising p)

pub map_without : {X : Type 0} (es : List (ℕ × X)) (q i : ℕ) (m : FinMap nat_cmp X) → AreRising es → from_sorted es ≡ m → IsIndex es q (Ok i) → from_sorted (without es i) ≡ remove m q
map_without es q i m rising seen p = map_others q es (without es i) m rising (others_at es q i rising p) seen

pub from_index : {X : Type 0} (es : List (ℕ × X)) (q i : ℕ) → AreRising es → IsIndex es q (Ok i) → drop i es ≡ where_key nat_cmp (leb q) es
from_index es q i rising p = dropped es q i (omega (arith, p.0)) (before_it es q i rising p.0 p.1) (from_it es q i rising p.0 p.1)

pub from_missed : {X : Type 0} (es : List (ℕ × X)) (q i : ℕ) → IsIndex es q (Err i) → drop i es ≡ where_key nat_cmp (leb q) es
from_missed es q i p = dropped es q i p.0 p.1.0 (λ k d a b. let lt = p.1.1 k d a b in omega arith)

-- ---- by the first item

pub first_index : {X : Type 0} (es : List (ℕ × X)) (e : ℕ × X) → Some e ≡ slice_get es 0 → IsIndex es e.0 (Ok 0)
first_index [] e is = absurd cc
first_index {X} (x ∷ es) e is = (omega arith, λ d. ap (λ (y : ℕ × X). y.0) (sym (same_Some e x is)))

pub first_from : {X : Type 0} (es : List (ℕ × X)) (e : ℕ × X) (m : FinMap nat_cmp X) (p s : ℕ) (x : X) → AreRising es → from_sorted es ≡ m → Some e ≡ slice_get es 0 → p ≤ e.0 → get m s ≡ Some x → p ≤ s
first_from {X} es e m p s x rising seen first le is = elim (cases_lt s p) [
  | inl lt ↦
      let none : get m s ≡ None = ap (λ (n : FinMap nat_cmp X). get n s) (sym seen) ∙ get-from_sorted nat_cmp es s rising ∙ below_first es e s rising first (omega arith) in
      absurd (none-some x (sym none ∙ is))
  | inr ge ↦ ge
]

pub none_at_all : {X : Type 0} (es : List (ℕ × X)) (m : FinMap nat_cmp X) (s : ℕ) (x : X) → AreRising es → from_sorted es ≡ m → None ≡ slice_get es 0 → get m s ≡ Some x → ⊥
none_at_all {X} [] m s x rising seen none is = none-some x (sym (ap (λ (n : FinMap nat_cmp X). get n s) (sym seen) ∙ get-from_sorted nat_cmp [] s rising) ∙ is)
none_at_all {X} (e ∷ es) m s x rising seen none is = none-some e none

-- ---- the first item

pub first_is : {X : Type 0} (es : List (ℕ × X)) (e : ℕ × X) → 0 < length es → e ≡ get_or es 0 e → Some e ≡ slice_get es 0
first_is [] e some is = absurd (omega arith)
first_is (x ∷ es) e some is = ap Some is

pub none_first : {X : Type 0} (es : List (ℕ × X)) → (0 < length es → ⊥) → None ≡ slice_get es 0
none_first [] none = refl
none_first (x ∷ es) none = absurd (none (omega arith))
