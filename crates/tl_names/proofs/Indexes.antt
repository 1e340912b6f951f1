-- Places at which an element has a property, as a list grows.
use Rattle.std.proofs.Common.{◌≡◌, ◌⊎◌, inl, inr, ℕ, zero, suc, List, [], ◌∷◌, ◌++◌, length, slice_get, Option, None, Some, ◌↔◌, refl, sym, subst, arith}
use Rattle.std.specs.Option.{unwrap_or}
use Rattle.std.proofs.lemmas.Option.{none-some, same_Some, slice_get_within}
use Rattle.tl_graph.specs.Firsts.{First}

-- properties that mean the same have the same first index
pub first_same : (P Q : ℕ → Type 0) → ((j : ℕ) → P j → Q j) → ((j : ℕ) → Q j → P j) → (o : Option ℕ) → First P o → First Q o
first_same P Q to from (Some k) first = (to k first.0, λ j below q. first.1 j below (from j q))
first_same P Q to from None none = λ k q. none k (from k q)

module _ {X : Type 0} where
  pub get_kept : (xs : List X) (x : X) (j : ℕ) (y : X) → slice_get xs j ≡ Some y → slice_get (xs ++ x ∷ []) j ≡ Some y
  get_kept [] x j y at = absurd (none-some y at)
  get_kept (z ∷ zs) x zero y at = at
  get_kept (z ∷ zs) x (suc j) y at = get_kept zs x j y at

  pub get_last : (xs : List X) (x : X) → slice_get (xs ++ x ∷ []) (length xs) ≡ Some x
  get_last [] x = refl
  get_last (z ∷ zs) x = get_last zs x

  pub get_cases : (xs : List X) (x : X) (j : ℕ) (y : X) → slice_get (xs ++ x ∷ []) j ≡ Some y → (slice_get xs j ≡ Some y) ⊎ ((j ≡ length xs) × (x ≡ y))
  get_cases [] x zero y at = inr (refl, same_Some x y at)
  get_cases [] x (suc j) y at = absurd (none-some y at)
  get_cases (z ∷ zs) x zero y at = inl at
  get_cases (z ∷ zs) x (suc j) y at =
      elim (get_cases zs x j y at) [ inl before ↦ inl before | inr last ↦ inr (omega (arith, last.0), last.1) ]

-- element j of the list has the property
pub record HoldsAt {X : Type 0} (P : X → Type 0) (xs : List X) (j : ℕ) : Type 0 where
  pub x : X
  pub there : slice_get xs j ≡ Some x
  pub has : P x

-- one element has it, and no other
abbrev pub HasOne : {X : Type 0} → (X → Type 0) → List X → Type 0
HasOne P xs = (j : ℕ) × HoldsAt P xs j × ((i : ℕ) → HoldsAt P xs i → i ≡ j)

module _ {X : Type 0} (P : X → Type 0) (xs : List X) (x : X) where
  index_kept : (j : ℕ) → HoldsAt P xs j → HoldsAt P (xs ++ x ∷ []) j
  index_kept j p = record { x = p.x; there = get_kept xs x j p.x p.there; has = p.has }

  index_last : P x → HoldsAt P (xs ++ x ∷ []) (length xs)
  index_last has = record { x = x; there = get_last xs x; has = has }

  index_cases : (j : ℕ) → HoldsAt P (xs ++ x ∷ []) j → HoldsAt P xs j ⊎ ((j ≡ length xs) × P x)
  index_cases j p =
      elim (get_cases xs x j p.x p.there) [
        | inl before ↦ inl (record { x = p.x; there = before; has = p.has })
        | inr last ↦ inr (last.0, subst P (sym last.1) p.has)
      ]

  -- an element that hasn't the property
  pub first_without : (P x → ⊥) → (o : Option ℕ) → First (HoldsAt P xs) o → First (HoldsAt P (xs ++ x ∷ [])) o
  first_without lacks o first =
      first_same (HoldsAt P xs) (HoldsAt P (xs ++ x ∷ [])) index_kept (λ j p. elim (index_cases j p) [ inl before ↦ before | inr last ↦ absurd (lacks last.1) ]) o first

  pub one_without : (P x → ⊥) → HasOne P xs ↔ HasOne P (xs ++ x ∷ [])
  one_without lacks =
      let old : (j : ℕ) → HoldsAt P (xs ++ x ∷ []) j → HoldsAt P xs j = λ j p. elim (index_cases j p) [ inl before ↦ before | inr last ↦ absurd (lacks last.1) ] in
      (λ one. (one.0, index_kept one.0 one.1, λ i p. one.2 i (old i p)), λ one. (one.0, old one.0 one.1, λ i p. one.2 i (index_kept i p)))

  module _ (has : P x) where
    -- an element that has it
    pub first_with : (o : Option ℕ) (at : ℕ) → length xs ≡ at → First (HoldsAt P xs) o → First (HoldsAt P (xs ++ x ∷ [])) (Some (unwrap_or o at))
    first_with (Some k) at e first =
        let within = slice_get_within xs k first.0.x first.0.there in
        (index_kept k first.0, λ j below p. elim (index_cases j p) [ inl before ↦ first.1 j below before | inr last ↦ absurd (omega (arith, last.0, within, below)) ])
    first_with None at e none =
        (subst (HoldsAt P (xs ++ x ∷ [])) e (index_last has), λ j below p. elim (index_cases j p) [ inl before ↦ none j before | inr last ↦ absurd (omega (arith, last.0, e, below)) ])

    pub one_with : First (HoldsAt P xs) None → HasOne P (xs ++ x ∷ [])
    one_with none = (length xs, index_last has, λ i p. elim (index_cases i p) [ inl before ↦ absurd (none i before) | inr last ↦ last.0 ])

    pub two_with : (k : ℕ) → HoldsAt P xs k → HasOne P (xs ++ x ∷ []) → ⊥
    two_with k p one =
        let within = slice_get_within xs k p.x p.there in
        let first = one.2 k (index_kept k p) in
        let last = one.2 (length xs) (index_last has) in
        omega (arith, within, first, last)
