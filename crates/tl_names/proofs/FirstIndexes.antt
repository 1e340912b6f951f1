-- The first constructor of a name, and of a type by its number.
use Rattle.std.proofs.Common.{◌≡◌, ◌⊎◌, inl, inr, ℕ, ◌<◌, ◌≤◌, Bool, true, false, ◌&&◌, List, length, get_or, slice_get, bytes_eq, Option, Some, None, refl, ap, sym, ◌∙◌, true≢false, if◌then◌else◌}
use Rattle.std.specs.Bool.{Decides}
use Rattle.std.specs.Option.{option_and_then, unwrap_or}
use Rattle.std.proofs.lemmas.Bool.Decides.{Decides-and, Decides-like}
use Rattle.std.proofs.lemmas.Option.{none-some, same_Some, slice_get_cases}
use Rattle.std.proofs.lemmas.Slice.Eq.{bytes_eq-Decides}
use Rattle.tl_program.specs.Program.{DeclText}
use Rattle.tl_names.specs.Writing.{is_constructor, own_type, result_head, IsConstructorNamed}
use Rattle.tl_names.specs.Constructors.{FirstNamed, FirstOf, IsFamily}
use Rattle.tl_names.specs.Indexes.{first_numbered, first_of, is_type, types_of}
use Rattle.tl_names.specs.What.{constructor_named, type_named}
use Rattle.tl_names.specs.declared.index.Constructors.{Constructors}
use Rattle.tl_names.proofs.Firsts.{one_first}
use Rattle.tl_names.proofs.Indexes.{HoldsAt, first_same}
use Rattle.tl_names.proofs.IndexSteps.{Makes, index_made, made_index}
use Rattle.tl_names.proofs.Positions.{first_position}
use Rattle.tl_names.proofs.TypeNumbers.{number_of, type_at}

-- ---- constructors of a name

abbrev IsNamed : List ℕ → DeclText → Type 0
IsNamed name d = (is_constructor d ≡ true) × (d.name ≡ name)

is_named : (name : List ℕ) (d : DeclText) → Decides (is_constructor d && bytes_eq name d.name) (IsNamed name d)
is_named name d =
    Decides-and (is_constructor d) (bytes_eq name d.name) (λ h. h, λ h. h) (Decides-like (bytes_eq name d.name) sym sym (bytes_eq-Decides name d.name))

-- the index of a name is that of its first constructor
pub first_named : (ds : List DeclText) (name : List ℕ) → FirstNamed ds name (constructor_named ds name)
first_named ds name =
    first_same _ _ (λ j (p : HoldsAt (IsNamed name) ds j). (p.x, record { there = p.there; own = p.has.0; named = p.has.1 })) (λ j (c : (d : DeclText) × IsConstructorNamed ds name j d). record { x = c.0; there = c.1.there; has = (c.1.own, c.1.named) }) (constructor_named ds name) (first_position _ (IsNamed name) (is_named name) ds)

-- ---- constructors of a type

type_made : (type : List ℕ) (own : Bool) (head : Option (List ℕ)) → Decides (is_type type (if own then head else None)) ((own ≡ true) × (head ≡ Some type))
type_made type true (Some name) =
    let same = bytes_eq-Decides type name in (λ h. (refl, ap Some (sym (same.0 h))), λ h. same.1 (sym (same_Some name type h.1)))
type_made type true None = (λ h. absurd (true≢false (sym h)), λ h. absurd (none-some type h.1))
type_made type false head = (λ h. absurd (true≢false (sym h)), λ h. absurd (true≢false (sym h.0)))

pub first_made : (ds : List DeclText) (type : List ℕ) → FirstOf ds type (first_of ds type)
first_made ds type =
    first_same _ _ (index_made ds type) (made_index ds type) (first_of ds type) (first_position _ (Makes type) (λ d. type_made type (is_constructor d) (result_head d)) ds)

-- ---- by the number of the type

module _ (ds : List DeclText) where
  first_is : (type : List ℕ) (n : ℕ) (o : Option ℕ) → slice_get (types_of ds) n ≡ Some type → FirstOf ds type o → unwrap_or o (length ds) ≡ first_numbered ds n
  first_is type n o at first =
      ap (λ k. unwrap_or k (length ds)) (one_first _ o (first_of ds type) first (first_made ds type)) ∙ sym (ap (λ t. unwrap_or (option_and_then (first_of ds) t) (length ds)) at)

  pub first_of_number : (type : List ℕ) (n k : ℕ) → type_named ds type ≡ Some n → FirstOf ds type (Some k) → k ≡ first_numbered ds n
  first_of_number type n k at first = first_is type n (Some k) (type_at ds type n at) first

  -- what is kept of the type's constructors tells it
  abbrev pub first_in : Option Constructors → ℕ
  first_in (Some c) = c.first
  first_in None = length ds

  module _ (n : ℕ) (o : Option Constructors) (family : (type : List ℕ) → type_named ds type ≡ Some n → IsFamily ds type o) (past : length (types_of ds) ≤ n → o ≡ None) where
    pub first_told : first_in o ≡ first_numbered ds n
    first_told = by (slice_get_cases (types_of ds) n).1 o family past
      where
        by : ((type : List ℕ) × (n < length (types_of ds)) × (slice_get (types_of ds) n ≡ Some type) × (get_or (types_of ds) n type ≡ type)) ⊎ ((length (types_of ds) ≤ n) × (slice_get (types_of ds) n ≡ None))
            → (o : Option Constructors) → ((type : List ℕ) → type_named ds type ≡ Some n → IsFamily ds type o) → (length (types_of ds) ≤ n → o ≡ None) → first_in o ≡ first_numbered ds n
        by (inl (type, below, at, is)) (Some c) family past = first_is type n (Some c.first) at (family type (number_of ds n type at)).first
        by (inl (type, below, at, is)) None family past = first_is type n None at (family type (number_of ds n type at))
        by (inr (after, at)) (Some c) family past = absurd (none-some c (sym (past after)))
        by (inr (after, at)) None family past = ap (λ t. unwrap_or (option_and_then (first_of ds) t) (length ds)) (sym at)
