-- Elements of lists after a push or a write.
use Rattle.std.proofs.Common.{◌≡◌, ◌≢◌, ◌⊎◌, inl, inr, ℕ, zero, suc, List, [], ◌∷◌, ◌++◌, map, set, Some, refl, sym, ap, arith}
use Rattle.std.specs.Prelude.{slice_get}
use Rattle.std.proofs.lemmas.Option.{none-some, same_Some}

-- an element of two lists together is one of the one or of the other
pub of_both : {A : Type 0} (xs ys : List A) (k : ℕ) (z : A) → slice_get (xs ++ ys) k ≡ Some z → (slice_get xs k ≡ Some z) ⊎ ((i : ℕ) × (slice_get ys i ≡ Some z))
of_both [] ys k z e = inr (k, e)
of_both (x ∷ xs) ys zero z e = inl e
of_both (x ∷ xs) ys (suc k) z e = of_both xs ys k z e

pub written : {A : Type 0} (xs : List A) (j : ℕ) (y : A) (k : ℕ) (z : A) → slice_get (set xs j y) k ≡ Some z → ((k ≢ j) × (slice_get xs k ≡ Some z)) ⊎ ((k ≡ j) × (z ≡ y))
written [] j y k z e = absurd (none-some z e)
written (x ∷ xs) zero y zero z e = inr (refl, sym (same_Some y z e))
written (x ∷ xs) zero y (suc k) z e = inl ((λ q. omega arith), e)
written (x ∷ xs) (suc j) y zero z e = inl ((λ q. omega arith), e)
written (x ∷ xs) (suc j) y (suc k) z e = elim (written xs j y k z e) [ inl a ↦ inl ((λ q. a.0 (omega arith)), a.1) | inr b ↦ inr (ap suc b.0, b.1) ]

-- an element of a list of images is the image of one
pub of_map : {A B : Type 0} (f : A → B) (xs : List A) (k : ℕ) (z : B) → slice_get (map f xs) k ≡ Some z → (x : A) × (slice_get xs k ≡ Some x) × (z ≡ f x)
of_map f [] k z e = absurd (none-some z e)
of_map f (x ∷ xs) zero z e = (x, refl, sym (same_Some (f x) z e))
of_map f (x ∷ xs) (suc k) z e = of_map f xs k z e
