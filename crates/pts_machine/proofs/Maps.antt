-- Held items as a finite map: from a position on, one more, one less.
use Rattle.std.proofs.Common.{◌≡◌, ℕ, ◌-◌, ◌<◌, ◌≤◌, Option, Some, None, Bool, true, false, cond, leb, refl, sym, ap, ◌∙◌, arith, inl, inr, ◌⊎◌}
use Rattle.std.specs.Ordering.{nat_cmp, eq_by_cmp}
use Rattle.std.specs.declared.cmp.Ordering.TheVariants.{Equal}
use Rattle.std.specs.Cmp.{nat_cmp_total}
use Rattle.std.specs.FinMap.{FinMap, get, len, empty_of_len, get-empty, insert, get-insert, remove, get-remove, len-remove, get-retain_keys, same_map, nat_cmp-IsAntisymmetric}
use Rattle.std.proofs.lemmas.Bool.Decides.{nat_tests}
use Rattle.std.proofs.lemmas.Bool.{cases_lt}
use Rattle.std.proofs.lemmas.Option.{none-some}
use Rattle.pts_machine.specs.Holding.{Items, from}

-- starts that the order doesn't tell apart are one
pub alike : (p : ℕ → Bool) (q x : ℕ) → nat_cmp q x ≡ Equal → p x ≡ p q
alike p q x e = ap p (sym (nat_cmp-IsAntisymmetric q x e))

same_start : (q k : ℕ) → eq_by_cmp nat_cmp q k ≡ true → q ≡ k
same_start q k e = grind (arith, nat_tests)

apart : (q p : ℕ) → p < q → eq_by_cmp nat_cmp q p ≡ false
apart q p lt = grind (arith, nat_tests)

-- ---- from a position on

pub get_from : {E : Type 0} (p : ℕ) (m : Items E) (q : ℕ) → get (from p m) q ≡ cond (leb p q) (get m q) None
get_from p m q = get-retain_keys m (leb p) q (alike (leb p) q)

le_of : (p q : ℕ) → leb p q ≡ true → p ≤ q
le_of p q e = grind (arith, nat_tests)

same_where : {A : Type 0} (b : Bool) (o p : Option A) → (b ≡ true → o ≡ p) → cond b o None ≡ cond b p None
same_where true o p h = h refl
same_where false o p h = refl

-- what is held below a position has no part in what is held from there on
pub same_from : {E : Type 0} (p : ℕ) (m k : Items E) → ((q : ℕ) → p ≤ q → get m q ≡ get k q) → from p m ≡ from p k
same_from p m k h = same_map nat_cmp_total nat_cmp-IsAntisymmetric _ _ (λ q.
    get_from p m q ∙ same_where (leb p q) (get m q) (get k q) (λ e. h q (le_of p q e)) ∙ sym (get_from p k q))

some_where : {A : Type 0} (b : Bool) (o : Option A) (x : A) → cond b o None ≡ Some x → (b ≡ true) × (o ≡ Some x)
some_where true o x e = (refl, e)
some_where false o x e = absurd cc

pub from_some : {E : Type 0} (p : ℕ) (m : Items E) (q : ℕ) (x : ℕ × E) → get (from p m) q ≡ Some x → (p ≤ q) × (get m q ≡ Some x)
from_some p m q x e =
    let s = some_where (leb p q) (get m q) x (sym (get_from p m q) ∙ e) in
    (le_of p q s.0, s.1)

-- ---- one more

which : {A : Type 0} (b : Bool) (v x : A) (o : Option A) → cond b (Some v) o ≡ Some x → ((b ≡ true) × (v ≡ x)) ⊎ (o ≡ Some x)
which true v x o e = inl (refl, cc)
which false v x o e = inr e

-- what a map with one more has is that one, or was held
pub insert_some : {E : Type 0} (m : Items E) (k : ℕ) (v : ℕ × E) (q : ℕ) (x : ℕ × E) → get (insert m k v) q ≡ Some x → ((q ≡ k) × (v ≡ x)) ⊎ (get m q ≡ Some x)
insert_some m k v q x e = elim (which (eq_by_cmp nat_cmp q k) v x (get m q) (sym (get-insert nat_cmp_total m k v q) ∙ e)) [
  | inl h ↦ inl (same_start q k h.0, h.1)
  | inr h ↦ inr h
]

-- ---- one less

none_or : {A : Type 0} (b : Bool) (o : Option A) (x : A) → cond b None o ≡ Some x → o ≡ Some x
none_or true o x e = absurd (none-some x e)
none_or false o x e = e

pub remove_some : {E : Type 0} (m : Items E) (p s : ℕ) (x : ℕ × E) → get (remove m p) s ≡ Some x → get m s ≡ Some x
remove_some m p s x is = none_or (eq_by_cmp nat_cmp s p) (get m s) x (sym (get-remove nat_cmp_total m p s) ∙ is)

-- taking an item changes no start after it
pub above_remove : {E : Type 0} (m : Items E) (p q : ℕ) → p < q → get m q ≡ get (remove m p) q
above_remove m p q lt = sym (get-remove nat_cmp_total m p q ∙ rw (apart q p lt) refl)

either : {A : Type 0} (b : Bool) (o : Option A) → (b ≡ true → o ≡ None) → cond b None o ≡ o
either true o h = sym (h refl)
either false o h = refl

-- where no item starts, nothing is taken
pub get_untaken : {X : Type 0} (m : FinMap nat_cmp X) (p q : ℕ) → get m p ≡ None → get (remove m p) q ≡ get m q
get_untaken m p q none = get-remove nat_cmp_total m p q ∙ either (eq_by_cmp nat_cmp q p) (get m q) (λ s. ap (get m) (same_start q p s) ∙ none)

pub untaken : {X : Type 0} (m : FinMap nat_cmp X) (p : ℕ) → get m p ≡ None → m ≡ remove m p
untaken m p none = same_map nat_cmp_total nat_cmp-IsAntisymmetric _ _ (λ q. sym (get_untaken m p q none))

pub len_untaken : {E : Type 0} (m : Items E) (p : ℕ) → get m p ≡ None → len (remove m p) ≡ len m
len_untaken m p none = len-remove nat_cmp_total m p ∙ rw none refl

pub len_taken : {E : Type 0} (m : Items E) (p : ℕ) (x : ℕ × E) → get m p ≡ Some x → len (remove m p) ≡ len m - 1
len_taken m p x is = len-remove nat_cmp_total m p ∙ rw is refl

-- a map that has an item is not empty
pub len_some : {E : Type 0} (m : Items E) (p : ℕ) (x : ℕ × E) → get m p ≡ Some x → 0 < len m
len_some {E} m p x is = elim (cases_lt 0 (len m)) [
  | inl lt ↦ lt
  | inr le ↦
      let none : get m p ≡ None = ap (λ (k : Items E). get k p) (empty_of_len m (omega arith)) ∙ get-empty nat_cmp p in
      absurd (none-some x (sym none ∙ is))
]
