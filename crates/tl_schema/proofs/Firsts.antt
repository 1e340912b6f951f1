-- The first index with a property that is decided: there is one or none.
use Rattle.std.proofs.Common.{◌⊎◌, inl, inr, ℕ, zero, suc, ◌<◌, List, length, slice_get, Option, Some, None, subst, arith}
use Rattle.std.proofs.lemmas.Bool.{cases_eq}
use Rattle.std.proofs.lemmas.Option.{slice_get_within}
use Rattle.tl_lexer.proofs.Whole.{Decided}
use Rattle.tl_program.specs.Program.{DeclText}
use Rattle.tl_combinators.proofs.Decided.{decided_as}
use Rattle.tl_graph.specs.Firsts.{First}
use Rattle.tl_names.specs.Writing.{At}
use Rattle.tl_names.specs.Writing.{DeclarationHas}
use Rattle.tl_schema.proofs.IndexesDecided.{option_decided}

-- no index below n has it
abbrev NoneBelow : (ℕ → Type 0) → ℕ → Type 0
NoneBelow P n = (j : ℕ) → j < n → P j → ⊥

-- the first index below n that has it
abbrev FirstBelow : (ℕ → Type 0) → ℕ → Type 0
FirstBelow P n = (k : ℕ) × (k < n) × P k × NoneBelow P k

module _ (P : ℕ → Type 0) where
  none_more : (n : ℕ) → NoneBelow P n → (P n → ⊥) → NoneBelow P (suc n)
  none_more n none here j below p = elim (cases_eq j n) [ inl e ↦ here (subst P e p) | inr other ↦ none j (omega (arith, below, other)) p ]

  one_more : (n : ℕ) → Decided (P n) → FirstBelow P n ⊎ NoneBelow P n → FirstBelow P (suc n) ⊎ NoneBelow P (suc n)
  one_more n d (inl (k, below, p, none)) = inl (k, omega (arith, below), p, none)
  one_more n (inl p) (inr none) = inl (n, omega arith, p, none)
  one_more n (inr here) (inr none) = inr (none_more n none here)

  first_below : ((k : ℕ) → Decided (P k)) → (n : ℕ) → FirstBelow P n ⊎ NoneBelow P n
  first_below test zero = inr (λ j below p. omega (arith, below))
  first_below test (suc n) = one_more n (test n) (first_below test n)

  answered : (n : ℕ) → ((k : ℕ) → P k → k < n) → FirstBelow P n ⊎ NoneBelow P n → (o : Option ℕ) × First P o
  answered n within (inl (k, below, p, none)) = (Some k, (p, none))
  answered n within (inr none) = (None, λ k p. none k (within k p) p)

  -- a decided property that no index from n on has
  pub first_of : (n : ℕ) → ((k : ℕ) → Decided (P k)) → ((k : ℕ) → P k → k < n) → (o : Option ℕ) × First P o
  first_of n test within = answered n within (first_below test n)

-- the first declaration that is such: where P says of an index that its declaration is Q
module _ (ds : List DeclText) (P : ℕ → Type 0) (Q : ℕ → DeclText → Type 0) (made : (k : ℕ) (d : DeclText) → At ds k d → Q k d → P k) (of : (k : ℕ) → P k → (d : DeclText) × At ds k d × Q k d) where
  pub first_declaration : ((k : ℕ) (d : DeclText) → Decided (Q k d)) → (o : Option ℕ) × First P o
  first_declaration test =
      first_of P (length ds) (λ k. decided_as (λ h. made k h.0 h.1 h.2) (of k) (option_decided (slice_get ds k) (Q k) (test k))) (λ k p. let h = of k p in slice_get_within ds k h.0 h.1)

-- the first declaration with a property that is decided
pub first_that : (ds : List DeclText) (P : DeclText → Type 0) → ((d : DeclText) → Decided (P d)) → (o : Option ℕ) × First (DeclarationHas P ds) o
first_that ds P test =
    first_declaration ds (DeclarationHas P ds) (λ k. P) (λ k d here has. record { d = d; here = here; has = has }) (λ k r. (r.d, r.here, r.has)) (λ k. test)
