-- One declaration more in an index.
use Rattle.std.proofs.Common.{◌≡◌, ℕ, List, [], ◌∷◌, ◌++◌, length, slice_get, ◌+◌, Bool, true, false, ◌&&◌, bytes_eq, Option, None, Some, refl, ap, ap₂, sym, ◌∙◌, subst, true≢false, if◌then◌else◌}
use Rattle.std.specs.Option.{unwrap_or, is_some}
use Rattle.std.proofs.lemmas.Option.{none-some, same_Some}
use Rattle.std.proofs.lemmas.List.{map_push}
use Rattle.std.proofs.lemmas.Slice.Eq.{bytes_eq-Decides}
use Rattle.tl_program.specs.Program.{DeclText}
use Rattle.tl_names.specs.Writing.{At, is_constructor, result_head, own_type, IsConstructorOf}
use Rattle.tl_names.specs.NameIndexes.{index_among, Notes}
use Rattle.tl_names.specs.NameLists.{position_of, with_name}
use Rattle.tl_names.specs.Indexes.{types_of, with_type_of}
use Rattle.tl_names.specs.What.{constructor_named, type_named}
use Rattle.tl_names.specs.declared.index.Constructors.{Constructors}
use Rattle.tl_names.specs.Constructors.{FirstOf, IsSingle, IsFamily, var_counts}
use Rattle.tl_names.specs.inner.Indexed.{IndexesNames, IndexesTypes, Changes, at_type, one_more}
use Rattle.tl_names.proofs.Indexes.{HoldsAt, HasOne, first_same, first_with, first_without, one_with, two_with, one_without, get_kept, get_last}
use Rattle.tl_names.proofs.Positions.{position_push}
use Rattle.tl_names.proofs.TypeNumbers.{types_of-push, index_with_name, length_with_name}
use Rattle.tl_names.proofs.UnevenTypes.{uneven_without, uneven_first, uneven_more}

-- ---- names

module _ (ds : List DeclText) (d : DeclText) where
  constructor_more : (name : List ℕ) → constructor_named (ds ++ d ∷ []) name ≡ (if is_constructor d && bytes_eq name d.name then Some (unwrap_or (constructor_named ds name) (length ds)) else constructor_named ds name)
  constructor_more name = position_push (λ x. is_constructor x && bytes_eq name x.name) ds d

  pub names_other : (names : List (List ℕ × ℕ)) → is_constructor d ≡ false → IndexesNames ds names → IndexesNames (ds ++ d ∷ []) names
  names_other names other old name =
      old name ∙ sym (constructor_more name ∙ ap (λ b. if b && bytes_eq name d.name then Some (unwrap_or (constructor_named ds name) (length ds)) else constructor_named ds name) other)

  pub names_more : (old new : List (List ℕ × ℕ)) (at : ℕ) → is_constructor d ≡ true → length ds ≡ at → Notes old new d.name at → IndexesNames ds old → IndexesNames (ds ++ d ∷ []) new
  names_more old new at own e notes before name =
      notes name ∙ ap (λ o. if bytes_eq name d.name then Some (unwrap_or o at) else o) (before name)
      ∙ ap (λ n. if bytes_eq name d.name then Some (unwrap_or (constructor_named ds name) n) else constructor_named ds name) (sym e)
      ∙ sym (constructor_more name ∙ ap (λ b. if b && bytes_eq name d.name then Some (unwrap_or (constructor_named ds name) (length ds)) else constructor_named ds name) own)

-- ---- types

abbrev pub Makes : List ℕ → DeclText → Type 0
Makes type d = (is_constructor d ≡ true) × (result_head d ≡ Some type)

module _ (ds : List DeclText) (type : List ℕ) where
  pub made_index : (j : ℕ) → ((c : DeclText) × IsConstructorOf ds type j c) → HoldsAt (Makes type) ds j
  made_index j c = record { x = c.0; there = c.1.there; has = (c.1.own, c.1.head) }

  pub index_made : (j : ℕ) → HoldsAt (Makes type) ds j → (c : DeclText) × IsConstructorOf ds type j c
  index_made j p = (p.x, record { there = p.there; own = p.has.0; head = p.has.1 })

  one_single : HasOne (Makes type) ds → IsSingle ds type
  one_single one =
      let c = index_made one.0 one.1 in (one.0, c.0, record { one = c.1; only = λ i b made. one.2 i (made_index i (b, made)) })

  single_one : IsSingle ds type → HasOne (Makes type) ds
  single_one single =
      (single.0, made_index single.0 (single.1, single.2.one), λ i p. let c = index_made i p in single.2.only i c.0 c.1)

module _ (ds : List DeclText) (d : DeclText) (type : List ℕ) where
  of_without : (Makes type d → ⊥) → (o : Option ℕ) → FirstOf ds type o → FirstOf (ds ++ d ∷ []) type o
  of_without lacks o first =
      first_same _ _ (index_made (ds ++ d ∷ []) type) (made_index (ds ++ d ∷ []) type) o (first_without (Makes type) ds d lacks o (first_same _ _ (made_index ds type) (index_made ds type) o first))

  of_with : Makes type d → (o : Option ℕ) (at : ℕ) → length ds ≡ at → FirstOf ds type o → FirstOf (ds ++ d ∷ []) type (Some (unwrap_or o at))
  of_with has o at e first =
      first_same _ _ (index_made (ds ++ d ∷ []) type) (made_index (ds ++ d ∷ []) type) (Some (unwrap_or o at)) (first_with (Makes type) ds d has o at e (first_same _ _ (made_index ds type) (index_made ds type) o first))

  -- the declaration at an index before the last is kept
  vars_kept : (k n : ℕ) → FirstOf ds type (Some k) → ((x : DeclText) → At ds k x → length x.vars ≡ n) → (x : DeclText) → At (ds ++ d ∷ []) k x → length x.vars ≡ n
  vars_kept k n first number x at =
      ap (λ (y : DeclText). length y.vars) (same_Some x first.0.0 (sym at ∙ get_kept ds d k first.0.0 first.0.1.there)) ∙ number first.0.0 first.0.1.there

  family_without : (Makes type d → ⊥) → (o : Option Constructors) → IsFamily ds type o → IsFamily (ds ++ d ∷ []) type o
  family_without lacks None first = of_without lacks None first
  family_without lacks (Some c) family =
      let same = one_without (Makes type) ds d lacks in
      let uneven = uneven_without ds d type lacks in
      record {
        first = of_without lacks (Some c.first) family.first;
        vars = vars_kept c.first c.vars family.first family.vars;
        only = (λ only. one_single (ds ++ d ∷ []) type (same.0 (single_one ds type (family.only.0 only))), λ single. family.only.1 (one_single ds type (same.1 (single_one (ds ++ d ∷ []) type single))));
        uneven = (λ is. uneven.0 (family.uneven.0 is), λ is. family.uneven.1 (uneven.1 is));
      }

  family_with : Makes type d → (o : Option Constructors) (at vars : ℕ) → length ds ≡ at → length d.vars ≡ vars → IsFamily ds type o → IsFamily (ds ++ d ∷ []) type (Some (one_more at vars o))
  family_with has None at vars e number first = record {
    first = of_with has None at e first;
    vars = λ x there. ap (λ (y : DeclText). length y.vars) (same_Some x d (sym there ∙ ap (slice_get (ds ++ d ∷ [])) (sym e) ∙ get_last ds d)) ∙ number;
    only = (λ only. one_single (ds ++ d ∷ []) type (one_with (Makes type) ds d has (first_same _ _ (made_index ds type) (index_made ds type) None first)), λ single. refl);
    uneven = (λ is. absurd (true≢false (sym is)), λ is. absurd (uneven_first ds d type (λ k c made. first k (c, made)) is));
  }
  family_with has (Some c) at vars e number family = record {
    first = of_with has (Some c.first) at e family.first;
    vars = vars_kept c.first c.vars family.first family.vars;
    only = (λ only. absurd (true≢false (sym only)), λ single. absurd (two_with (Makes type) ds d has c.first (made_index ds type c.first family.first.0) (single_one (ds ++ d ∷ []) type single)));
    uneven = uneven_more ds d type has c.first c.vars vars c.uneven family.first.0 family.vars number family.uneven;
  }

-- ---- types by number

own_head : (d : DeclText) (type : List ℕ) → own_type d ≡ Some type → Makes type d
own_head d type is = by (is_constructor d) refl
  where
    by : (b : Bool) → is_constructor d ≡ b → Makes type d
    by true own = (own, sym (ap (λ b. if b then result_head d else None) own) ∙ is)
    by false other = absurd (none-some type (sym (ap (λ b. if b then result_head d else None) other) ∙ is))

made_type : (d : DeclText) (type : List ℕ) → Makes type d → own_type d ≡ Some type
made_type d type has = ap (λ b. if b then result_head d else None) has.0 ∙ has.1

module _ (ds : List DeclText) (d : DeclText) where
  pub types_other : (types : List (List ℕ × ℕ)) (families : List Constructors) → own_type d ≡ None → IndexesTypes ds types families → IndexesTypes (ds ++ d ∷ []) types families
  types_other types families none old =
      let same : types_of (ds ++ d ∷ []) ≡ types_of ds = types_of-push ds d ∙ ap (with_type_of (types_of ds)) none in
      record {
        numbers = λ type. old.numbers type ∙ sym (ap (position_of type) same);
        count = old.count ∙ sym (ap length same);
        made = λ type. family_without ds d type (λ has. none-some type (sym none ∙ made_type d type has)) (at_type types families type) (old.made type);
      }

  module _ (old_types : List (List ℕ × ℕ)) (old : List Constructors) (new_types : List (List ℕ × ℕ)) (new : List Constructors) (made : List ℕ) (at vars : ℕ) (own : own_type d ≡ Some made) (e : length ds ≡ at) (number : length d.vars ≡ vars) (changes : Changes old_types old new_types new made (one_more at vars)) (before : IndexesTypes ds old_types old) where
    more : types_of (ds ++ d ∷ []) ≡ with_name (types_of ds) made
    more = types_of-push ds d ∙ ap (with_type_of (types_of ds)) own

    numbers_more : (type : List ℕ) → index_among new_types type ≡ type_named (ds ++ d ∷ []) type
    numbers_more type =
        changes.numbers type ∙ ap (λ o. if bytes_eq type made then Some (unwrap_or o (length old)) else o) (before.numbers type)
        ∙ ap (λ n. if bytes_eq type made then Some (unwrap_or (type_named ds type) n) else type_named ds type) before.count ∙ sym (ap (position_of type) more ∙ index_with_name (types_of ds) made type)

    count_more : length new ≡ length (types_of (ds ++ d ∷ []))
    count_more =
        changes.count ∙ ap (λ o. if is_some o then length old else length old + 1) (before.numbers made)
        ∙ ap (λ n. if is_some (type_named ds made) then n else n + 1) before.count ∙ sym (ap length more ∙ length_with_name (types_of ds) made)

    family_more : (type : List ℕ) → IsFamily (ds ++ d ∷ []) type (at_type new_types new type)
    family_more type = by (bytes_eq type made) refl
      where
        changed : Bool → Option Constructors
        changed b = if b then Some (one_more at vars (at_type old_types old type)) else at_type old_types old type

        by : (b : Bool) → bytes_eq type made ≡ b → IsFamily (ds ++ d ∷ []) type (at_type new_types new type)
        by true h =
            let has = own_head d type (own ∙ ap Some (sym ((bytes_eq-Decides type made).0 h))) in
            subst (IsFamily (ds ++ d ∷ []) type) (sym (changes.made type ∙ ap changed h)) (family_with ds d type has (at_type old_types old type) at vars e number (before.made type))
        by false h =
            subst (IsFamily (ds ++ d ∷ []) type) (sym (changes.made type ∙ ap changed h))
            (family_without ds d type (λ has. true≢false (sym ((bytes_eq-Decides type made).1 (same_Some type made (sym (made_type d type has) ∙ own))) ∙ h)) (at_type old_types old type) (before.made type))

    pub types_more : IndexesTypes (ds ++ d ∷ []) new_types new
    types_more = record { numbers = numbers_more; count = count_more; made = family_more }

-- how many variables each has, one declaration more
pub counted_more : (ds : List DeclText) (d : DeclText) (vars : List ℕ) (n : ℕ) → n ≡ length d.vars → vars ≡ var_counts ds → vars ++ n ∷ [] ≡ var_counts (ds ++ d ∷ [])
counted_more ds d vars n is before =
    ap₂ (λ (xs : List ℕ) (k : ℕ). xs ++ k ∷ []) before is ∙ sym (map_push (λ (c : DeclText). length c.vars) ds d)
