-- The numbers of the types of a program, as its declarations come.
use Rattle.std.proofs.Common.{◌≡◌, inl, inr, ℕ, ◌+◌, ◌≤◌, Bool, true, false, List, [], ◌∷◌, ◌++◌, length, bytes_eq, get_or, slice_get, Option, Some, None, refl, ap, ap₂, sym, ◌∙◌, if◌then◌else◌, length-append, arith}
use Rattle.std.specs.List.{fold, list_any}
use Rattle.std.specs.Option.{unwrap_or, is_some}
use Rattle.std.proofs.lemmas.List.Quantifiers.{position-Some}
use Rattle.std.proofs.lemmas.List.Sums.{fold_push}
use Rattle.std.proofs.lemmas.Option.{none-some, slice_get-get_or}
use Rattle.std.proofs.lemmas.Slice.Eq.{bytes_eq-Decides}
use Rattle.tl_program.specs.Program.{DeclText}
use Rattle.tl_names.specs.Writing.{own_type}
use Rattle.tl_names.specs.NameLists.{position_of, with_name}
use Rattle.tl_names.specs.Indexes.{types_of, with_type_of}
use Rattle.tl_names.specs.What.{type_named}
use Rattle.tl_names.specs.inner.Indexed.{AreNumbered, IndexesTypes}
use Rattle.tl_names.specs.declared.index.Constructors.{Constructors}
use Rattle.tl_names.proofs.Indexes.{get_cases}
use Rattle.tl_names.proofs.Positions.{position_push, position_there, position_not_there}

-- ---- one name more

abbrev StandAtNumbers : List (List ℕ) → Type 0
StandAtNumbers names = (n : ℕ) (name : List ℕ) → slice_get names n ≡ Some name → position_of name names ≡ Some n

module _ (names : List (List ℕ)) (name : List ℕ) where
  abbrev with_known : Bool → List (List ℕ)
  with_known b = if b then names else names ++ name ∷ []

  -- a new name has the next number, and each other the number that it had
  pub index_with_name : (other : List ℕ) → position_of other (with_name names name) ≡ (if bytes_eq other name then Some (unwrap_or (position_of other names) (length names)) else position_of other names)
  index_with_name other = by (list_any (bytes_eq name) names) refl
    where
      known : list_any (bytes_eq name) names ≡ true → (b : Bool) → bytes_eq other name ≡ b → position_of other names ≡ (if b then Some (unwrap_or (position_of other names) (length names)) else position_of other names)
      known there true h =
          let at = position_there (bytes_eq other) names (ap (λ (n : List ℕ). list_any (bytes_eq n) names) ((bytes_eq-Decides other name).0 h) ∙ there) in
          at ∙ ap (λ o. Some (unwrap_or o (length names))) (sym at)
      known there false h = refl

      by : (b : Bool) → list_any (bytes_eq name) names ≡ b → position_of other (with_name names name) ≡ (if bytes_eq other name then Some (unwrap_or (position_of other names) (length names)) else position_of other names)
      by true e = ap (λ b. position_of other (with_known b)) e ∙ known e (bytes_eq other name) refl
      by false e = ap (λ b. position_of other (with_known b)) e ∙ position_push (bytes_eq other) names name

  pub length_with_name : length (with_name names name) ≡ (if is_some (position_of name names) then length names else length names + 1)
  length_with_name = by (list_any (bytes_eq name) names) refl
    where
      by : (b : Bool) → list_any (bytes_eq name) names ≡ b → length (with_name names name) ≡ (if is_some (position_of name names) then length names else length names + 1)
      by true e =
          ap (λ b. length (with_known b)) e ∙ sym (ap (λ o. if is_some o then length names else length names + 1) (position_there (bytes_eq name) names e))
      by false e =
          ap (λ b. length (with_known b)) e ∙ length-append names (name ∷ []) ∙ sym (ap (λ o. if is_some o then length names else length names + 1) (position_not_there (bytes_eq name) names e))

  pub few_more : length (with_name names name) ≤ length names + 1
  few_more = by (list_any (bytes_eq name) names) refl
    where
      by : (b : Bool) → list_any (bytes_eq name) names ≡ b → length (with_name names name) ≤ length names + 1
      by true e = omega (arith, ap (λ b. length (with_known b)) e)
      by false e = omega (arith, ap (λ b. length (with_known b)) e, length-append names (name ∷ []))

  -- each name stands at its number
  pub stands_more : StandAtNumbers names → StandAtNumbers (with_name names name)
  stands_more before n other at = index_with_name other ∙ by (list_any (bytes_eq name) names) refl
    where
      number_by : Bool → Option ℕ → Option ℕ
      number_by b o = if b then Some (unwrap_or o (length names)) else o

      kept : (b : Bool) → slice_get names n ≡ Some other → number_by b (position_of other names) ≡ Some n
      kept true there = ap (λ o. Some (unwrap_or o (length names))) (before n other there)
      kept false there = before n other there

      by : (b : Bool) → list_any (bytes_eq name) names ≡ b → number_by (bytes_eq other name) (position_of other names) ≡ Some n
      by true e = kept (bytes_eq other name) (sym (ap (λ b. slice_get (with_known b) n) e) ∙ at)
      by false e = elim (get_cases names name n other (sym (ap (λ b. slice_get (with_known b) n) e) ∙ at)) [
        | inl there ↦ kept (bytes_eq other name) there
        | inr last ↦
            ap₂ number_by ((bytes_eq-Decides other name).1 (sym last.1)) (ap (λ x. position_of x names) (sym last.1) ∙ position_not_there (bytes_eq name) names e) ∙ ap Some (sym last.0)
      ]

-- ---- one declaration more

abbrev with_type : List (List ℕ) → DeclText → List (List ℕ)
with_type types d = with_type_of types (own_type d)

pub types_of-push : (ds : List DeclText) (d : DeclText) → types_of (ds ++ d ∷ []) ≡ with_type_of (types_of ds) (own_type d)
types_of-push ds d = fold_push with_type [] ds d

-- there are no more types than declarations
one_at_most : (types : List (List ℕ)) (o : Option (List ℕ)) → length (with_type_of types o) ≤ length types + 1
one_at_most types None = omega arith
one_at_most types (Some type) = few_more types type

few_folded : (types : List (List ℕ)) (ds : List DeclText) → length (fold with_type types ds) ≤ length types + length ds
few_folded types [] = omega arith
few_folded types (d ∷ ds) = omega (arith, few_folded (with_type types d) ds, one_at_most types (own_type d))

pub few_types : (ds : List DeclText) → length (types_of ds) ≤ length ds
few_types ds = omega (arith, few_folded [] ds)

-- ---- a type and its number

stands_with : (types : List (List ℕ)) (o : Option (List ℕ)) → StandAtNumbers types → StandAtNumbers (with_type_of types o)
stands_with types None before = before
stands_with types (Some type) before = stands_more types type before

stands_folded : (types : List (List ℕ)) (ds : List DeclText) → StandAtNumbers types → StandAtNumbers (fold with_type types ds)
stands_folded types [] before = before
stands_folded types (d ∷ ds) before = stands_folded (with_type types d) ds (stands_with types (own_type d) before)

module _ (ds : List DeclText) where
  pub number_of : (n : ℕ) (type : List ℕ) → slice_get (types_of ds) n ≡ Some type → type_named ds type ≡ Some n
  number_of = stands_folded [] ds (λ n type at. absurd (none-some type at))

  pub type_at : (type : List ℕ) (n : ℕ) → type_named ds type ≡ Some n → slice_get (types_of ds) n ≡ Some type
  type_at type n at =
      let found = position-Some (bytes_eq type) (types_of ds) n type at in
      slice_get-get_or (types_of ds) n type found.0 ∙ ap Some (sym ((bytes_eq-Decides type (get_or (types_of ds) n type)).0 found.1))

-- ---- numbers of an index

pub index_apart : (names : List (List ℕ)) (a b : List ℕ) (k : ℕ) → position_of a names ≡ Some k → position_of b names ≡ Some k → a ≡ b
index_apart names a b k at_a at_b =
    let found_a = position-Some (bytes_eq a) names k [] at_a in
    let found_b = position-Some (bytes_eq b) names k [] at_b in
    (bytes_eq-Decides a (get_or names k [])).0 found_a.1 ∙ sym ((bytes_eq-Decides b (get_or names k [])).0 found_b.1)

pub are_numbered : (ds : List DeclText) (types : List (List ℕ × ℕ)) (families : List Constructors) → IndexesTypes ds types families → AreNumbered types families
are_numbered ds types families is = record {
  within = λ type number at. omega (arith, (position-Some (bytes_eq type) (types_of ds) number [] (sym (is.numbers type) ∙ at)).0, is.count);
  apart = λ type other number at_type at_other. index_apart (types_of ds) type other number (sym (is.numbers type) ∙ at_type) (sym (is.numbers other) ∙ at_other);
}
