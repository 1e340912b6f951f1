-- Conditions of fields.
use Rattle.std.proofs.Common.{◌≡◌, inl, inr, ℕ, ◌+◌, ◌<◌, ◌≤◌, List, length, slice_get, ap, sym, ◌∙◌, subst, arith}
use Rattle.std.proofs.lemmas.Bool.{cases_eq}
use Rattle.std.proofs.lemmas.Option.{slice_get_within, same_Some}
use Rattle.tl_program.specs.Program.{FieldText, DeclText}
use Rattle.tl_names.specs.Parts.{FieldAt}
use Rattle.tl_schema.specs.BadFlag.{IsFlagsBefore, IsBadCondition, HasBadCondition}
use Rattle.tl_schema.specs.inner.ConditionSteps.{IsFlags}

-- ---- the `#` fields before one more

module _ (d : DeclText) (i : ℕ) (f : FieldText) (at : FieldAt d i f) (flags : List ℕ) where
  pub flags_found : (n : ℕ) → i < n → IsFlags f flags → IsFlagsBefore d n flags
  flags_found n before is = record { earlier = i; f = f; before = before; there = at; number = is.number; name = is.name }

  pub no_flags_more : ¬ IsFlagsBefore d i flags → ¬ IsFlags f flags → ¬ IsFlagsBefore d (i + 1) flags
  no_flags_more none other b = elim (cases_eq b.earlier i) [
    | inl e ↦
        let same : b.f ≡ f = same_Some b.f f (sym (sym (ap (slice_get d.fields) e) ∙ b.there) ∙ at) in
        let is : IsFlags b.f flags = record { number = b.number; name = b.name } in other (subst (λ (x : FieldText). IsFlags x flags) same is)
    | inr ne ↦ none (record { earlier = b.earlier; f = b.f; before = (let below = b.before in omega arith); there = b.there; number = b.number; name = b.name })
  ]

-- ---- the fields of a declaration

-- none of the first i fields has such a condition
abbrev pub NoneBefore : DeclText → ℕ → Type 0
NoneBefore d i = (h : HasBadCondition d) → h.i < i → ⊥

pub none_bad_more : (d : DeclText) (i : ℕ) (f : FieldText) → FieldAt d i f → NoneBefore d i → ¬ IsBadCondition d i f.cond → NoneBefore d (i + 1)
none_bad_more d i f at none other h below = elim (cases_eq h.i i) [
  | inl e ↦
      let same : h.f ≡ f = same_Some h.f f (sym (sym (ap (slice_get d.fields) e) ∙ h.field) ∙ at) in
      let here : IsBadCondition d i h.f.cond = subst (λ n. IsBadCondition d n h.f.cond) e h.bad in other (subst (λ (x : FieldText). IsBadCondition d i x.cond) same here)
  | inr ne ↦ none h (omega arith)
]

pub none_bad : (d : DeclText) (i : ℕ) → length d.fields ≤ i → NoneBefore d i → ¬ HasBadCondition d
none_bad d i all none h = none h (let within = slice_get_within d.fields h.i h.f h.field in omega arith)
