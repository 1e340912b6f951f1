-- What is made of decided parts is decided.
use Rattle.std.proofs.Common.{◌⊎◌, inl, inr, ℕ, zero, suc, ◌<◌, subst, arith}
use Rattle.std.proofs.lemmas.Bool.{cases_eq}

abbrev pub Decided : Type 0 → Type 0
Decided P = P ⊎ (P → ⊥)

pub decided_as : {P Q : Type 0} → (P → Q) → (Q → P) → Decided P → Decided Q
decided_as f g (inl p) = inl (f p)
decided_as f g (inr n) = inr (λ q. n (g q))

pub decided_not : {P : Type 0} → Decided P → Decided (P → ⊥)
decided_not (inl p) = inr (λ n. n p)
decided_not (inr n) = inl n

pub decided_and : {P Q : Type 0} → Decided P → Decided Q → Decided (P × Q)
decided_and (inl p) (inl q) = inl (p, q)
decided_and (inl p) (inr n) = inr (λ h. n h.1)
decided_and (inr n) d = inr (λ h. n h.0)

pub decided_or : {P Q : Type 0} → Decided P → Decided Q → Decided (P ⊎ Q)
decided_or (inl p) d = inl (inl p)
decided_or (inr n) (inl q) = inl (inr q)
decided_or (inr n) (inr m) = inr (λ h. elim h [ inl p ↦ n p | inr q ↦ m q ])

-- one of the numbers below n is such, or none is
module _ (P : ℕ → Type 0) (test : (k : ℕ) → Decided (P k)) where
  below_more : (n : ℕ) → Decided (P n) → Decided ((k : ℕ) × (k < n) × P k) → Decided ((k : ℕ) × (k < suc n) × P k)
  below_more n (inl p) d = inl (n, omega arith, p)
  below_more n (inr m) (inl h) = inl (h.0, omega (arith, h.1), h.2)
  below_more n (inr m) (inr none) = inr (λ h. elim (cases_eq h.0 n) [ inl e ↦ m (subst P e h.2) | inr other ↦ none (h.0, omega (arith, h.1, other), h.2) ])

  pub below_decided : (n : ℕ) → Decided ((k : ℕ) × (k < n) × P k)
  below_decided zero = inr (λ h. omega (arith, h.1))
  below_decided (suc n) = below_more n (test n) (below_decided n)
