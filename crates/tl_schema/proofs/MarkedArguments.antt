-- Arguments that are bare constructors with a mark.
use Rattle.std.proofs.Common.{◌≡◌, ◌⊎◌, inl, inr, ℕ, zero, suc, ◌+◌, ◌≤◌, ◌↔◌, Bool, List, [], ◌∷◌, ◌++◌, length, take, slice_get, Some, None, refl, sym, subst}
use Rattle.std.specs.Prelude.{IsTrue}
use Rattle.std.proofs.lemmas.List.{take_all}
use Rattle.std.proofs.lemmas.Option.{none-some, same_Some}
use Rattle.tl_program.specs.Trees.{Tree, trees_of}
use Rattle.tl_program.specs.Program.{DeclText}
use Rattle.tl_graph.specs.Needs.{IsMarked}
use Rattle.tl_schema.specs.EmptyElement.{IsOneOf}
use Rattle.tl_names.specs.inner.BareSteps.{BareIs}
use Rattle.tl_schema.specs.inner.MarkedSteps.{IsMarkedBare, HasMarkedArg}
use Rattle.tl_names.proofs.Maps.{take_push}

-- ---- one of several types

one_of_item : (ts : List Tree) (i : ℕ) (t : Tree) → slice_get ts i ≡ Some t → IsOneOf t (trees_of ts)
one_of_item [] i t at = absurd (none-some t at)
one_of_item (s ∷ ts) zero t at = inl (sym (same_Some s t at))
one_of_item (s ∷ ts) (suc i) t at = inr (one_of_item ts i t at)

one_of_push : (u : Tree) (ts : List Tree) (t : Tree) → IsOneOf u (trees_of (ts ++ t ∷ [])) → IsOneOf u (trees_of ts) ⊎ (u ≡ t)
one_of_push u [] t one = elim one [ inl here ↦ inr here | inr none ↦ absurd none ]
one_of_push u (s ∷ ts) t one =
    elim one [
      | inl here ↦ inl (inl here)
      | inr later ↦ elim (one_of_push u ts t later) [ inl before ↦ inl (inr before) | inr last ↦ inr last ]
    ]

module _ (ds : List DeclText) (marks : List Bool) (d : DeclText) where
  pub marked_bare : (t : Tree) (j : ℕ) (b : Bool) → BareIs ds d t (Some j) → IsTrue b ↔ IsMarked marks j → IsTrue b ↔ IsMarkedBare ds marks d t
  marked_bare t j b bare told =
      (λ h. (j, (bare j).1 refl, told.0 h), λ m. told.1 (subst (IsMarked marks) (sym (same_Some j m.0 ((bare m.0).0 m.1))) m.2))

  pub no_marked_bare : (t : Tree) → BareIs ds d t None → IsMarkedBare ds marks d t → ⊥
  no_marked_bare t bare m = none-some m.0 ((bare m.0).0 m.1)

  module _ (ts : List Tree) (i : ℕ) where
    pub marked_item : (t : Tree) → slice_get ts i ≡ Some t → IsMarkedBare ds marks d t → HasMarkedArg ds marks d (trees_of ts)
    marked_item t at m = (t, one_of_item ts i t at, m)

    -- one more is none
    pub none_marked_more : (t : Tree) → slice_get ts i ≡ Some t → (HasMarkedArg ds marks d (trees_of (take i ts)) → ⊥) → (IsMarkedBare ds marks d t → ⊥) → HasMarkedArg ds marks d (trees_of (take (i + 1) ts)) → ⊥
    none_marked_more t at before here m =
        let one = subst (λ us. IsOneOf m.0 (trees_of us)) (take_push ts i t at) m.1 in
        elim (one_of_push m.0 (take i ts) t one) [ inl old ↦ before (m.0, old, m.2) | inr e ↦ here (subst (IsMarkedBare ds marks d) e m.2) ]

    -- none of them is one
    pub none_marked : length ts ≤ i → (HasMarkedArg ds marks d (trees_of (take i ts)) → ⊥) → HasMarkedArg ds marks d (trees_of ts) → ⊥
    none_marked all none m = none (subst (λ us. HasMarkedArg ds marks d (trees_of us)) (sym (take_all i ts all)) m)
