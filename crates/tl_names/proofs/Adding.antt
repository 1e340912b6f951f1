-- Nodes to which those that types refer to were added.
use Rattle.std.proofs.Common.{◌≡◌, ◌⊎◌, inl, inr, ℕ, List, [], ◌∷◌, ◌++◌, ◌↔◌, length, None, Some, refl, ap, subst}
use Rattle.std.proofs.lemmas.Option.{none-some, same_Some}
use Rattle.tl_program.specs.Trees.{Tree}
use Rattle.tl_program.specs.Program.{DeclText}
use Rattle.tl_graph.specs.Paths.{IsIn}
use Rattle.tl_names.specs.BareReferences.{IsBareOf}
use Rattle.tl_names.specs.inner.BareSteps.{BareIs, RefersIn, Adds}
use Rattle.tl_names.proofs.Indexes.{get_kept, get_last, get_cases}

-- one node more
in_push : (j k : ℕ) (js : List ℕ) → IsIn j (js ++ k ∷ []) ↔ (IsIn j js ⊎ (k ≡ j))
in_push j k js = (
  λ here. elim (get_cases js k here.0 j here.1) [ inl before ↦ inl (here.0, before) | inr last ↦ inr last.1 ],
  λ either. elim either [ inl old ↦ (old.0, get_kept js k old.0 j old.1) | inr e ↦ subst (λ i. IsIn i (js ++ k ∷ [])) e (length js, get_last js k) ],
)

module _ (ds : List DeclText) (d : DeclText) where
  module _ (Such Other : Tree → Type 0) where
    -- such types under another name
    pub adds_same : (old new : List ℕ) → ((u : Tree) → Such u → Other u) → ((u : Tree) → Other u → Such u) → Adds ds d Such old new → Adds ds d Other old new
    adds_same old new to from adds j = (
      λ there. elim ((adds j).0 there) [ inl was ↦ inl was | inr more ↦ inr (more.0, to more.0 more.1, more.2) ],
      λ either. (adds j).1 (elim either as (λ _. IsIn j old ⊎ RefersIn ds d Such j) [ inl was ↦ inl was | inr more ↦ inr (more.0, from more.0 more.1, more.2) ]),
    )

    -- first those of some types, then those of others
    pub adds_then : (Both : Tree → Type 0) (old mid new : List ℕ) → ((u : Tree) → Both u → Such u ⊎ Other u) → ((u : Tree) → Such u → Both u) → ((u : Tree) → Other u → Both u)
        → Adds ds d Such old mid → Adds ds d Other mid new → Adds ds d Both old new
    adds_then Both old mid new split left right first second j = (to, from)
      where
        to : IsIn j new → IsIn j old ⊎ RefersIn ds d Both j
        to there =
            elim ((second j).0 there) [
              | inl was ↦ elim ((first j).0 was) [ inl before ↦ inl before | inr more ↦ inr (more.0, left more.0 more.1, more.2) ]
              | inr more ↦ inr (more.0, right more.0 more.1, more.2)
            ]

        of_both : RefersIn ds d Both j → IsIn j new
        of_both more =
            elim (split more.0 more.1) [
              | inl such ↦ (second j).1 (inl ((first j).1 (inr (more.0, such, more.2))))
              | inr other ↦ (second j).1 (inr (more.0, other, more.2))
            ]

        from : IsIn j old ⊎ RefersIn ds d Both j → IsIn j new
        from (inl was) = (second j).1 (inl ((first j).1 (inl was)))
        from (inr more) = of_both more

  module _ (t : Tree) (old : List ℕ) where
    -- the type itself is a bare constructor
    pub adds_bare : (k : ℕ) → BareIs ds d t (Some k) → Adds ds d (λ u. u ≡ t) old (old ++ k ∷ [])
    adds_bare k bare j = (to, from)
      where
        to : IsIn j (old ++ k ∷ []) → IsIn j old ⊎ RefersIn ds d (λ u. u ≡ t) j
        to there =
            elim ((in_push j k old).0 there) [ inl was ↦ inl was | inr e ↦ inr (t, refl, (bare j).1 (ap Some e)) ]

        from : IsIn j old ⊎ RefersIn ds d (λ u. u ≡ t) j → IsIn j (old ++ k ∷ [])
        from (inl was) = (in_push j k old).1 (inl was)
        from (inr more) =
            (in_push j k old).1 (inr (same_Some k j ((bare j).0 (subst (λ (u : Tree). IsBareOf ds d u j) more.1 more.2))))

    pub adds_no_bare : BareIs ds d t None → Adds ds d (λ u. u ≡ t) old old
    adds_no_bare bare j = (λ was. inl was, from)
      where
        from : IsIn j old ⊎ RefersIn ds d (λ u. u ≡ t) j → IsIn j old
        from (inl was) = was
        from (inr more) = absurd (none-some j ((bare j).0 (subst (λ (u : Tree). IsBareOf ds d u j) more.1 more.2)))

  -- where no type is such
  pub adds_nothing : (Such : Tree → Type 0) (old : List ℕ) → ((u : Tree) → Such u → ⊥) → Adds ds d Such old old
  adds_nothing Such old none j = (λ was. inl was, λ either. elim either as (λ _. IsIn j old) [ inl was ↦ was | inr more ↦ absurd (none more.0 more.1) ])
