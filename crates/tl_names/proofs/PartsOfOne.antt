-- Parts of types in a list.
use Rattle.std.proofs.Common.{◌≡◌, ◌⊎◌, inl, inr, ℕ, zero, suc, ◌+◌, ◌≤◌, List, [], ◌∷◌, ◌++◌, length, take, slice_get, Some, subst, sym, refl, ◌↔◌, Bool, false, true≢false}
use Rattle.std.proofs.lemmas.Option.{none-some, same_Some}
use Rattle.std.proofs.lemmas.List.{take_all}
use Rattle.std.specs.Prelude.{IsTrue}
use Rattle.tl_program.specs.Trees.{Tree, Trees, named, percent, any_call, trees_of}
use Rattle.tl_names.specs.Parts.{IsPart, IsPartOfOne}
use Rattle.tl_names.specs.Parts.{SomePart, SomePartOfOne}
use Rattle.tl_names.proofs.Maps.{take_push}

part_of_item : (u : Tree) (ts : List Tree) (i : ℕ) (t : Tree) → slice_get ts i ≡ Some t → IsPart u t → IsPartOfOne u (trees_of ts)
part_of_item u [] i t at part = absurd (none-some t at)
part_of_item u (s ∷ ts) zero t at part = inl (subst (IsPart u) (sym (same_Some s t at)) part)
part_of_item u (s ∷ ts) (suc i) t at part = inr (part_of_item u ts i t at part)

pub part_of_push : (u : Tree) (ts : List Tree) (t : Tree) → IsPartOfOne u (trees_of (ts ++ t ∷ [])) → IsPartOfOne u (trees_of ts) ⊎ IsPart u t
part_of_push u [] t part = elim part [ inl here ↦ inr here | inr none ↦ absurd none ]
part_of_push u (s ∷ ts) t part =
    elim part [
      | inl here ↦ inl (inl here)
      | inr later ↦ elim (part_of_push u ts t later) [ inl before ↦ inl (inr before) | inr last ↦ inr last ]
    ]

module _ (P : Tree → Type 0) (ts : List Tree) (i : ℕ) where
  -- an element has such a part
  pub some_of_item : (t : Tree) → slice_get ts i ≡ Some t → SomePart P t → SomePartOfOne P (trees_of ts)
  some_of_item t at some = (some.0, part_of_item some.0 ts i t at some.1, some.2)

  -- one more element has none
  pub none_more : (t : Tree) → slice_get ts i ≡ Some t → (SomePartOfOne P (trees_of (take i ts)) → ⊥) → (SomePart P t → ⊥) → SomePartOfOne P (trees_of (take (i + 1) ts)) → ⊥
  none_more t at before here some =
      let part = subst (λ us. IsPartOfOne some.0 (trees_of us)) (take_push ts i t at) some.1 in
      elim (part_of_push some.0 (take i ts) t part) [ inl old ↦ before (some.0, old, some.2) | inr new ↦ here (some.0, new, some.2) ]

  -- none of them has one
  pub none_done : length ts ≤ i → (SomePartOfOne P (trees_of (take i ts)) → ⊥) → SomePartOfOne P (trees_of ts) → ⊥
  none_done all none some = none (subst (λ us. SomePartOfOne P (trees_of us)) (sym (take_all i ts all)) some)

-- ---- parts of a type, by its form

pub is_own_part : (t : Tree) → IsPart t t
is_own_part (named name ts) = inl refl
is_own_part (percent t) = inl refl
is_own_part any_call = refl

module _ (P : Tree → Type 0) where
  pub some_itself : (t : Tree) → P t → SomePart P t
  some_itself t p = (t, is_own_part t, p)

  module _ (b : Bool) where
    pub some_named : (name : List ℕ) (ts : Trees) → (P (named name ts) → ⊥) → IsTrue b ↔ SomePartOfOne P ts → IsTrue b ↔ SomePart P (named name ts)
    some_named name ts none told = (
      λ h. let some = told.0 h in (some.0, inr some.1, some.2),
      λ some. elim some.1 [ inl here ↦ absurd (none (subst P here some.2)) | inr later ↦ told.1 (some.0, later, some.2) ],
    )

    pub some_percent : (t : Tree) → (P (percent t) → ⊥) → IsTrue b ↔ SomePart P t → IsTrue b ↔ SomePart P (percent t)
    some_percent t none told = (
      λ h. let some = told.0 h in (some.0, inr some.1, some.2),
      λ some. elim some.1 [ inl here ↦ absurd (none (subst P here some.2)) | inr later ↦ told.1 (some.0, later, some.2) ],
    )

  pub some_any_call : (P any_call → ⊥) → IsTrue false ↔ SomePart P any_call
  some_any_call none = (λ h. absurd (true≢false (sym h)), λ some. absurd (none (subst P some.1 some.2)))
