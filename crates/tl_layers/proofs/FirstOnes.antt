-- The first number with a property, as numbers are tried.
use Rattle.std.proofs.Common.{◌≡◌, inl, inr, ◌↔◌, IsTrue, ℕ, ◌+◌, ◌<◌, ◌≤◌, List, length, slice_get, Some, Bool, true, false, sym, ◌∙◌, subst, true≢false, arith}
use Rattle.std.proofs.lemmas.Bool.{cases_eq}
use Rattle.std.proofs.lemmas.Option.{same_Some, slice_get_within}
use Rattle.tl_schema.specs.Schemas.{Slot}
use Rattle.tl_layers.specs.Breaks.{NamesBit}
use Rattle.tl_layers.specs.inner.Pairs.{PairView}
use Rattle.tl_layers.specs.inner.FieldBreaks.{HasCause, count_for}
use Rattle.tl_layers.specs.declared.field_breaks.FieldCause.{FieldCause}
use Rattle.tl_layers.specs.declared.field_breaks.FieldCause.TheVariants as cause

pub none_more : (P : ℕ → Type 0) (k : ℕ) → ((j : ℕ) → j < k → P j → ⊥) → (b : Bool) → IsTrue b ↔ P k → b ≡ false → (j : ℕ) → j < k + 1 → P j → ⊥
none_more P k none b test fails j below has = elim (cases_eq j k) [
  | inl e ↦ true≢false (sym (test.1 (subst P e has)) ∙ fails)
  | inr other ↦ none j (omega (arith, below, other)) has
]

-- a field that has a cause is one of those that may have it
has_within : (p : PairView) (fs gs : List Slot) (c : FieldCause) (k : ℕ) → HasCause p fs gs c k → k < count_for fs gs c
has_within p fs gs cause.Gone k h = slice_get_within fs k h.0 h.1
has_within p fs gs cause.Order k h = slice_get_within fs k h.2 h.7
has_within p fs gs cause.Changed k h = slice_get_within fs k h.0 h.3
has_within p fs gs cause.Added k h = slice_get_within gs k h.0 h.1

pub none_has : (p : PairView) (fs gs : List Slot) (c : FieldCause) (k : ℕ) → count_for fs gs c ≤ k → ((j : ℕ) → j < k → HasCause p fs gs c j → ⊥) → (j : ℕ) → HasCause p fs gs c j → ⊥
none_has p fs gs c k past none j has = let within = has_within p fs gs c j has in none j (omega (arith, past, within)) has

-- ---- bits

module _ (fs : List Slot) (k bit : ℕ) where
  pub no_bit_more : (i : ℕ) (f : Slot) → slice_get fs i ≡ Some f → (b : Bool) → (b ≡ true → f.cond ≡ Some (k, bit)) × (f.cond ≡ Some (k, bit) → b ≡ true) → b ≡ false
      → ((j : ℕ) (g : Slot) → j < i → slice_get fs j ≡ Some g → g.cond ≡ Some (k, bit) → ⊥) → (j : ℕ) (g : Slot) → j < i + 1 → slice_get fs j ≡ Some g → g.cond ≡ Some (k, bit) → ⊥
  no_bit_more i f at b test fails none j g below there is = elim (cases_eq j i) [
    | inl e ↦ true≢false (sym (test.1 (subst (λ (x : Slot). x.cond ≡ Some (k, bit)) (same_Some g f (sym there ∙ subst (λ (n : ℕ). slice_get fs n ≡ Some f) (sym e) at)) is)) ∙ fails)
    | inr other ↦ none j g (omega (arith, below, other)) there is
  ]

  pub no_bit_at_all : (i : ℕ) → length fs ≤ i → ((j : ℕ) (g : Slot) → j < i → slice_get fs j ≡ Some g → g.cond ≡ Some (k, bit) → ⊥) → NamesBit fs k bit → ⊥
  no_bit_at_all i past none n = let within = slice_get_within fs n.0 n.1 n.2 in none n.0 n.1 (omega (arith, past, within)) n.2 n.3
