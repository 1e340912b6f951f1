-- Elements that stand twice in a list.
use Rattle.std.proofs.Common.{◌≡◌, ℕ, zero, suc, ◌<◌, Bool, true, false, ◌||◌, List, [], ◌∷◌, take, slice_get, Some, refl, ap, sym, ◌∙◌, true≢false, arith}
use Rattle.std.specs.Bool.{Decides}
use Rattle.std.specs.List.{list_any}
use Rattle.std.proofs.lemmas.Option.{none-some, same_Some}
use Rattle.tl_names.specs.NameLists.{IsRepeat}

module _ {X : Type 0} (eq : X → X → Bool) (same : (x y : X) → Decides (eq x y) (x ≡ y)) where
  -- an element that a test finds among the first k stands there
  found : (xs : List X) (k : ℕ) (x : X) → list_any (eq x) (take k xs) ≡ true → (j : ℕ) × (j < k) × (slice_get xs j ≡ Some x)
  found xs zero x h = absurd (true≢false (sym h))
  found [] (suc k) x h = absurd (true≢false (sym h))
  found (y ∷ ys) (suc k) x h = by (eq x y) refl (found ys k x)
    where
      by : (b : Bool) → eq x y ≡ b → (list_any (eq x) (take k ys) ≡ true → (j : ℕ) × (j < k) × (slice_get ys j ≡ Some x)) → (j : ℕ) × (j < suc k) × (slice_get (y ∷ ys) j ≡ Some x)
      by true e rest = (0, omega arith, ap Some (sym ((same x y).0 e)))
      by false e rest =
          let r = rest (sym (ap (λ c. c || list_any (eq x) (take k ys)) e) ∙ h) in (suc r.0, omega arith, r.2)

  -- and one that it doesn't find is none of them
  other : (xs : List X) (k : ℕ) (x y : X) (j : ℕ) → list_any (eq x) (take k xs) ≡ false → j < k → slice_get xs j ≡ Some y → eq x y ≡ false
  other xs zero x y j h below at = absurd (omega arith)
  other [] (suc k) x y j h below at = absurd (none-some y at)
  other (z ∷ zs) (suc k) x y j h below at = by (eq x z) refl (λ n. other zs k x y n) j below at
    where
      by : (b : Bool) → eq x z ≡ b → ((n : ℕ) → list_any (eq x) (take k zs) ≡ false → n < k → slice_get zs n ≡ Some y → eq x y ≡ false) → (n : ℕ) → n < suc k → slice_get (z ∷ zs) n ≡ Some y → eq x y ≡ false
      by true e rest n below at = absurd (true≢false (sym (ap (λ c. c || list_any (eq x) (take k zs)) e) ∙ h))
      by false e rest zero below at = ap (eq x) (sym (same_Some z y at)) ∙ e
      by false e rest (suc n) below at = rest n (sym (ap (λ c. c || list_any (eq x) (take k zs)) e) ∙ h) (omega arith) at

  pub repeat_found : (xs : List X) (k : ℕ) (x : X) → slice_get xs k ≡ Some x → list_any (eq x) (take k xs) ≡ true → IsRepeat xs k
  repeat_found xs k x at h = let r = found xs k x h in record { earlier = r.0; item = x; before = r.1; there = r.2; here = at }

  pub repeat_not_found : (xs : List X) (k : ℕ) (x : X) → slice_get xs k ≡ Some x → list_any (eq x) (take k xs) ≡ false → ¬ IsRepeat xs k
  repeat_not_found xs k x at h r =
      let is : r.item ≡ x = same_Some r.item x (sym r.here ∙ at) in
      true≢false (sym ((same x r.item).1 (sym is)) ∙ other xs k x r.item r.earlier h r.before r.there)
