-- The first index at which a test passes, as a list grows.
use Rattle.std.proofs.Common.{◌≡◌, inl, inr, ℕ, zero, suc, ◌+◌, ◌<◌, ◌≤◌, Bool, true, false, cond, not, ◌||◌, List, [], ◌∷◌, ◌++◌, length, map, position, get_or, slice_get, Option, Some, None, refl, ap, sym, subst, ◌∙◌, if◌then◌else◌, eqb, arith, true≢false}
use Rattle.std.specs.Bool.{Decides}
use Rattle.std.specs.List.{position_or_len, list_any}
use Rattle.std.specs.Option.{unwrap_or}
use Rattle.std.proofs.lemmas.Bool.{cases_order, lt-ltb, le-ltb, eq-eqb, ne_eqb}
use Rattle.std.proofs.lemmas.List.{length_push, length-map}
use Rattle.std.proofs.lemmas.List.Folds.{position_or_len_push}
use Rattle.std.proofs.lemmas.List.Quantifiers.{position-Some}
use Rattle.std.proofs.lemmas.List.Sums.{prefix_len-le-length}
use Rattle.std.proofs.lemmas.Option.{none-some, same_Some, slice_get-get_or, get_or_from_slice_get}
use Rattle.tl_graph.specs.Firsts.{First}
use Rattle.tl_names.proofs.Indexes.{HoldsAt}

if_same : {X : Type 0} (b : Bool) (x : X) → x ≡ (if b then x else x)
if_same true x = refl
if_same false x = refl

module _ {X : Type 0} (test : X → Bool) where
  pub position_found : (xs : List X) → position_or_len test xs < length xs → position test xs ≡ Some (position_or_len test xs)
  position_found xs within =
      ap (λ b. cond b (Some (position_or_len test xs)) None) (lt-ltb (position_or_len test xs) (length xs) within)

  pub position_missed : (xs : List X) → length xs ≤ position_or_len test xs → position test xs ≡ None
  position_missed xs past =
      ap (λ b. cond b (Some (position_or_len test xs)) None) (le-ltb (position_or_len test xs) (length xs) past)

  module _ (xs : List X) (x : X) where
    abbrev later : Option ℕ → Option ℕ
    later before = if test x then Some (unwrap_or before (length xs)) else before

    push_found : position_or_len test xs < length xs → position test (xs ++ x ∷ []) ≡ later (position test xs)
    push_found within =
        let p = position_or_len test xs in
        let same : position_or_len test (xs ++ x ∷ []) ≡ p = position_or_len_push test xs x ∙ ap (λ b. cond b (length xs + cond (test x) 0 1) p) (ne_eqb p (length xs) (λ e. omega (arith, e, within))) in
        position_found (xs ++ x ∷ []) (omega (arith, same, within, length_push xs x)) ∙ ap Some same ∙ if_same (test x) (Some p) ∙ ap later (sym (position_found xs within))

    push_missed : position_or_len test xs ≡ length xs → position test (xs ++ x ∷ []) ≡ later (position test xs)
    push_missed e = by (test x) refl
      where
        at : (b : Bool) → test x ≡ b → position_or_len test (xs ++ x ∷ []) ≡ length xs + cond b 0 1
        at b h =
            position_or_len_push test xs x ∙ ap (λ p. cond (eqb p (length xs)) (length xs + cond (test x) 0 1) p) e ∙ ap (λ c. cond c (length xs + cond (test x) 0 1) (length xs)) (eq-eqb (length xs) (length xs) refl) ∙ ap (λ c. length xs + cond c 0 1) h

        none : position test xs ≡ None
        none = position_missed xs (omega (arith, e))

        by : (b : Bool) → test x ≡ b → position test (xs ++ x ∷ []) ≡ later (position test xs)
        by true h =
            let is : position_or_len test (xs ++ x ∷ []) ≡ length xs = omega (arith, at true h) in
            position_found (xs ++ x ∷ []) (omega (arith, is, length_push xs x)) ∙ ap Some is ∙ sym (ap later none ∙ ap (λ b. if b then Some (length xs) else None) h)
        by false h =
            position_missed (xs ++ x ∷ []) (omega (arith, at false h, length_push xs x)) ∙ sym (ap later none ∙ ap (λ b. if b then Some (length xs) else None) h)

    -- one more element
    pub position_push : position test (xs ++ x ∷ []) ≡ later (position test xs)
    position_push = let le : position_or_len test xs ≤ length xs = prefix_len-le-length _ xs in elim (cases_order (position_or_len test xs) (length xs)) [
      | inl e ↦ push_missed e
      | inr (inl within) ↦ push_found within
      | inr (inr past) ↦ absurd (omega (arith, past, le))
    ]

  position_any : (xs : List X) → (list_any test xs ≡ true → position_or_len test xs < length xs) × (list_any test xs ≡ false → length xs ≤ position_or_len test xs)
  position_any [] = (λ h. absurd (true≢false (sym h)), λ h. omega arith)
  position_any (x ∷ xs) = by (test x) refl (position_any xs)
    where
      by : (b : Bool) → test x ≡ b → ((list_any test xs ≡ true → position_or_len test xs < length xs) × (list_any test xs ≡ false → length xs ≤ position_or_len test xs)) → (list_any test (x ∷ xs) ≡ true → position_or_len test (x ∷ xs) < length (x ∷ xs)) × (list_any test (x ∷ xs) ≡ false → length (x ∷ xs) ≤ position_or_len test (x ∷ xs))
      by true e rest =
          let here : position_or_len test (x ∷ xs) ≡ 0 = ap (λ b. cond (not b) (1 + position_or_len test xs) 0) e in
          (λ h. omega (arith, here), λ h. absurd (true≢false (sym (ap (λ b. b || list_any test xs) e) ∙ h)))
      by false e rest =
          let next : position_or_len test (x ∷ xs) ≡ 1 + position_or_len test xs = ap (λ b. cond (not b) (1 + position_or_len test xs) 0) e in
          (λ h. omega (arith, next, rest.0 (sym (ap (λ b. b || list_any test xs) e) ∙ h)), λ h. omega (arith, next, rest.1 (sym (ap (λ b. b || list_any test xs) e) ∙ h)))

  pub position_there : (xs : List X) → list_any test xs ≡ true → position test xs ≡ Some (position_or_len test xs)
  position_there xs there = position_found xs ((position_any xs).0 there)

  pub position_not_there : (xs : List X) → list_any test xs ≡ false → position test xs ≡ None
  position_not_there xs none = position_missed xs ((position_any xs).1 none)

-- in a list that a function makes
module _ {X Y : Type 0} (test : Y → Bool) (f : X → Y) where
  len_made : (xs : List X) → position_or_len test (map f xs) ≡ position_or_len (λ x. test (f x)) xs
  len_made [] = refl
  len_made (x ∷ xs) = ap (λ n. cond (not (test (f x))) (1 + n) 0) (len_made xs)

  pub position_made : (xs : List X) → position test (map f xs) ≡ position (λ x. test (f x)) xs
  position_made xs = rw (len_made xs, length-map xs f) refl

-- ---- where the test decides a property

module _ {X : Type 0} (test : X → Bool) where
  none_there : (xs : List X) → list_any test xs ≡ false → (k : ℕ) (x : X) → slice_get xs k ≡ Some x → test x ≡ false
  none_there [] none k x at = absurd (none-some x at)
  none_there (y ∷ ys) none k x at = by (test y) refl k at (none_there ys)
    where
      by : (b : Bool) → test y ≡ b → (k : ℕ) → slice_get (y ∷ ys) k ≡ Some x → (list_any test ys ≡ false → (k : ℕ) (x : X) → slice_get ys k ≡ Some x → test x ≡ false) → test x ≡ false
      by true e k at rest = absurd (true≢false (sym (ap (λ b. b || list_any test ys) e) ∙ none))
      by false e zero at rest = ap test (sym (same_Some y x at)) ∙ e
      by false e (suc k) at rest = rest (sym (ap (λ b. b || list_any test ys) e) ∙ none) k x at

module _ {X : Type 0} (test : X → Bool) (P : X → Type 0) (decides : (x : X) → Decides (test x) (P x)) where
  first_some : (xs : List X) (k : ℕ) → position test xs ≡ Some k → First (HoldsAt P xs) (Some k)
  first_some [] k at = absurd (none-some k at)
  first_some (y ∷ ys) k at =
      let found = position-Some test (y ∷ ys) k y at in
      let x = get_or (y ∷ ys) k y in
      (record { x = x; there = slice_get-get_or (y ∷ ys) k y found.0; has = (decides x).0 found.1 }, λ j below p. true≢false (sym ((decides p.x).1 p.has) ∙ sym (ap test (get_or_from_slice_get (y ∷ ys) j p.x y p.there)) ∙ found.2 j below))

  first_none : (xs : List X) → list_any test xs ≡ false → First (HoldsAt P xs) None
  first_none xs none k p = true≢false (sym ((decides p.x).1 p.has) ∙ none_there test xs none k p.x p.there)

  -- the first index at which the test passes is that of the first element with the property
  pub first_position : (xs : List X) → First (HoldsAt P xs) (position test xs)
  first_position xs = by (list_any test xs) refl
    where
      by : (b : Bool) → list_any test xs ≡ b → First (HoldsAt P xs) (position test xs)
      by true e =
          let at = position_there test xs e in subst (First (HoldsAt P xs)) (sym at) (first_some xs (position_or_len test xs) at)
      by false e = subst (First (HoldsAt P xs)) (sym (position_not_there test xs e)) (first_none xs e)
