-- The first declaration of a name.
use Rattle.std.proofs.Common.{◌≡◌, ℕ, zero, suc, ◌+◌, ◌<◌, List, [], ◌∷◌, length, Bool, true, false, not, Option, Some, None, bytes_eq, refl, ap, sym, ◌∙◌, subst, arith}
use Rattle.std.specs.Prelude.{slice_get}
use Rattle.std.specs.List.{position_from}
use Rattle.std.specs.Str.{IsAscii}
use Rattle.std.proofs.lemmas.Bool.{and_from, and_parts, false_from_ne_true}
use Rattle.std.proofs.lemmas.Slice.Eq.{bytes_eq-Decides}
use Rattle.std.proofs.lemmas.Str.{encodes-IsAscii, encodes_same}
use Rattle.tl_schema.specs.CheckedPrograms.{Finds, HasName}
use Rattle.tl_schema.specs.Schemas.{Declaration, Declared}
use Rattle.tl_show.specs.Shown.{name_text}
use Rattle.tl_show.specs.Reading.{is_named}
use Rattle.tl_show.specs.inner.Keyed.{is_named_at}

-- among declarations that are counted from j
module _ (function : Bool) (name : List ℕ) where
  pub named_first : (ds : List Declaration) (i j : ℕ) → is_named_at function name (slice_get ds i) ≡ true → ((k : ℕ) → k < i → is_named_at function name (slice_get ds k) ≡ false)
      → position_from (is_named function name) j ds ≡ Some (j + i)
  named_first [] i j is before = let never : false ≡ true = is in cc
  named_first (d ∷ ds) zero j is before = rw is (ap Some (omega arith))
  named_first (d ∷ ds) (suc i) j is before =
      let here : is_named function name d ≡ false = before 0 (omega arith) in
      rw here (named_first ds i (j + 1) is (λ k below. before (suc k) (omega arith)) ∙ ap Some (omega arith))

  pub named_nowhere : (ds : List Declaration) (j : ℕ) → ((k : ℕ) → k < length ds → is_named_at function name (slice_get ds k) ≡ false) → position_from (is_named function name) j ds ≡ None
  named_nowhere [] j none = refl
  named_nowhere (d ∷ ds) j none =
      let here : is_named function name d ≡ false = none 0 (omega arith) in
      rw here (named_nowhere ds (j + 1) (λ k below. none (suc k) (omega arith)))

-- ---- names as texts

none_from_not : (b : Bool) → not b ≡ true → b ≡ false
none_from_not true is = let never : false ≡ true = is in cc
none_from_not false is = refl

-- what it is that a declaration is named so
pub named_is : (function : Bool) (name : List ℕ) (d : Declaration) → is_named function name d ≡ true → (name ≡ name_text d.name) × (d.function ≡ function)
named_is true name d is = let p = and_parts d.function (bytes_eq name (name_text d.name)) is in ((bytes_eq-Decides name (name_text d.name)).0 p.1, p.0)
named_is false name d is =
    let p = and_parts (not d.function) (bytes_eq name (name_text d.name)) is in
    ((bytes_eq-Decides name (name_text d.name)).0 p.1, none_from_not d.function p.0)

pub is_named_so : (function : Bool) (name : List ℕ) (d : Declaration) → name ≡ name_text d.name → d.function ≡ function → is_named function name d ≡ true
is_named_so true name d is kind = and_from _ _ kind ((bytes_eq-Decides name (name_text d.name)).1 is)
is_named_so false name d is kind = and_from _ _ (ap not kind) ((bytes_eq-Decides name (name_text d.name)).1 is)

-- a name that is ASCII is its text, and no other name has this text
module _ (name : List ℕ) (ascii : IsAscii name) (function : Bool) (ds : List Declaration) where
  named_at : (i : ℕ) → HasName ds name function i → is_named_at function name (slice_get ds i) ≡ true
  named_at i h = ap (is_named_at function name) h.1 ∙ is_named_so function name h.0 (sym (ap name_text h.2 ∙ encodes-IsAscii name ascii)) h.3

  has_name_at : (i : ℕ) (o : Option Declaration) → slice_get ds i ≡ o → is_named_at function name o ≡ true → HasName ds name function i
  has_name_at i None there is = let never : false ≡ true = is in cc
  has_name_at i (Some d) there is = let h = named_is function name d is in (d, there, encodes_same d.name name (sym h.0 ∙ sym (encodes-IsAscii name ascii)), h.1)

  not_named : (i : ℕ) → (HasName ds name function i → ⊥) → is_named_at function name (slice_get ds i) ≡ false
  not_named i none = false_from_ne_true _ (λ is. none (has_name_at i _ refl is))

  found_is_first : (r : Option ℕ) → Finds ds name function r → r ≡ position_from (is_named function name) 0 ds
  found_is_first None none = sym (named_nowhere function name ds 0 (λ k below. not_named k (none k)))
  found_is_first (Some i) first =
      sym (named_first function name ds i 0 (named_at i first.0) (λ k below. not_named k (first.1 k below)) ∙ ap Some (omega arith))

-- what a schema finds, as it is seen
pub found_as_seen : (s t : Declared) (n name : List ℕ) (function : Bool) (r : Option ℕ) → IsAscii name → s ≡ t → n ≡ name → Finds s.decls n function r
    → r ≡ position_from (is_named function name) 0 t.decls
found_as_seen s t n name function r ascii same is found =
    found_is_first name ascii function t.decls r
    (subst (λ (d : Declared). Finds d.decls name function r) same (subst (λ (m : List ℕ). Finds s.decls m function r) is found))
