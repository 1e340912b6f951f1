-- What can be decided: it holds or it doesn't.
use Rattle.std.proofs.Common.{◌≡◌, ◌⊎◌, ℕ, List, [], ◌∷◌, refl, inl, inr}
use Rattle.std.proofs.lemmas.Bool.{cases_eq}

abbrev pub Decided : Type 0 → Type 0
Decided P = P ⊎ (P → ⊥)

pub decided_as : {P Q : Type 0} → (P → Q) → (Q → P) → Decided P → Decided Q
decided_as f g (inl p) = inl (f p)
decided_as f g (inr n) = inr (λ q. n (g q))

pub decided_not : {P : Type 0} → Decided P → Decided (P → ⊥)
decided_not (inl p) = inr (λ n. n p)
decided_not (inr n) = inl n

pub decided_and : {P Q : Type 0} → Decided P → Decided Q → Decided (P × Q)
decided_and (inl p) (inl q) = inl (p, q)
decided_and (inl p) (inr n) = inr (λ h. n h.1)
decided_and (inr n) d = inr (λ h. n h.0)

cells : (x y : ℕ) (xs ys : List ℕ) → Decided (x ≡ y) → Decided (xs ≡ ys) → Decided (x ∷ xs ≡ y ∷ ys)
cells x y xs ys (inl e) (inl f) = inl cc
cells x y xs ys (inl e) (inr n) = inr (λ f. n cc)
cells x y xs ys (inr n) d = inr (λ f. n cc)

pub text_decided : (xs ys : List ℕ) → Decided (xs ≡ ys)
text_decided [] [] = inl refl
text_decided [] (y ∷ ys) = inr (λ e. absurd cc)
text_decided (x ∷ xs) [] = inr (λ e. absurd cc)
text_decided (x ∷ xs) (y ∷ ys) = cells x y xs ys (cases_eq x y) (text_decided xs ys)
