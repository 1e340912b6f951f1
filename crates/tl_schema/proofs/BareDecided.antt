-- Whether a type is a bare constructor, and whether a constructor refers to another.
use Rattle.std.proofs.Common.{◌≡◌, ◌⊎◌, inl, inr, ℕ, ◌<◌, true, false, List, length, Option, Some, None, refl, subst}
use Rattle.std.proofs.lemmas.Bool.{cases_eq}
use Rattle.std.proofs.lemmas.Option.{same_Some, slice_get_within}
use Rattle.tl_lexer.proofs.Whole.{Decided}
use Rattle.tl_combinators.proofs.Decided.{decided_as, decided_and, decided_or}
use Rattle.tl_program.specs.Trees.{Tree, Trees, named, percent}
use Rattle.tl_program.specs.Program.{DeclText}
use Rattle.tl_graph.specs.Firsts.{First}
use Rattle.tl_names.specs.Writing.{is_constructor, is_type_name, is_built_in, is_variable, IsConstructorNamed}
use Rattle.tl_names.specs.Parts.{InFields}
use Rattle.tl_names.specs.Constructors.{IsOnlyConstructor}
use Rattle.tl_names.specs.BareReferences.{IsBareOf, by_name, by_type, PointsTo}
use Rattle.tl_schema.proofs.IndexesDecided.{bool_decided}
use Rattle.tl_schema.proofs.TypesDecided.{named_decided, percent_decided}
use Rattle.tl_schema.proofs.WritingDecided.{at_decided, named_at_decided, only_constructor_decided, in_fields_decided}
use Rattle.tl_schema.proofs.Firsts.{first_of}
use Rattle.tl_names.proofs.Firsts.{one_first}

-- ---- the first, and the only one

module _ (P : ℕ → Type 0) (j : ℕ) where
  first_is : (o : Option ℕ) → First P o → Decided (First P (Some j))
  first_is None none = inr (λ first. none j first.0)
  first_is (Some i) found = decided_as (λ e. subst (λ n. First P (Some n)) e found) (λ first. same_Some i j (one_first P (Some i) (Some j) found first)) (cases_eq i j)

module _ (ds : List DeclText) (type : List ℕ) (j : ℕ) where
  only_is : Decided ((i : ℕ) × (c : DeclText) × IsOnlyConstructor ds type i c) → Decided ((c : DeclText) × IsOnlyConstructor ds type j c)
  only_is (inl (i, c, only)) =
      decided_as (λ e. (c, subst (λ n. IsOnlyConstructor ds type n c) e only)) (λ h. h.1.only i c only.one) (cases_eq i j)
  only_is (inr none) = inr (λ h. none (j, h.0, h.1))

-- ---- bare constructors

abbrev IsFirstNamed : List DeclText → List ℕ → ℕ → Type 0
IsFirstNamed ds name j = First (λ i. (c : DeclText) × IsConstructorNamed ds name i c) (Some j)

abbrev NamesBare : List DeclText → DeclText → List ℕ → ℕ → Type 0
NamesBare ds d name j = (is_variable d name ≡ false) × ((is_built_in name ≡ false) × ((is_type_name name ≡ false) × IsFirstNamed ds name j))

abbrev HasOnly : List DeclText → DeclText → List ℕ → ℕ → Type 0
HasOnly ds d type j =
    (is_variable d type ≡ false) × ((is_built_in type ≡ false) × ((is_type_name type ≡ true) × ((c : DeclText) × IsOnlyConstructor ds type j c)))

abbrev ByName : List DeclText → DeclText → Tree → ℕ → Type 0
ByName ds d t j = (name : List ℕ) × (args : Trees) × (t ≡ named name args) × NamesBare ds d name j

abbrev ByType : List DeclText → DeclText → Tree → ℕ → Type 0
ByType ds d t j = (u : Tree) × (t ≡ percent u) × ((type : List ℕ) × (args : Trees) × (u ≡ named type args) × HasOnly ds d type j)

module _ (ds : List DeclText) where
  module _ (d : DeclText) (t : Tree) (j : ℕ) where
    bare : ByName ds d t j ⊎ ByType ds d t j → IsBareOf ds d t j
    bare (inl (name, args, is, (free, (own, (lower, first))))) = by_name name args is free own lower first
    bare (inr (u, is, (type, args, under, (free, (own, (upper, (c, only))))))) = by_type type args c (subst (λ v. t ≡ percent v) under is) free own upper only

    of_bare : IsBareOf ds d t j → ByName ds d t j ⊎ ByType ds d t j
    of_bare (by_name name args is free own lower first) = inl (name, args, is, (free, (own, (lower, first))))
    of_bare (by_type type args c is free own upper only) = inr (named type args, is, (type, args, refl, (free, (own, (upper, (c, only))))))

    names_decided : (name : List ℕ) → Decided (NamesBare ds d name j)
    names_decided name =
        let P = λ (i : ℕ). (c : DeclText) × IsConstructorNamed ds name i c in
        let first = first_of P (length ds) (named_at_decided ds name) (λ i h. slice_get_within ds i h.0 h.1.there) in
        decided_and (bool_decided (is_variable d name) false) (decided_and (bool_decided (is_built_in name) false)
        (decided_and (bool_decided (is_type_name name) false) (first_is P j first.0 first.1)))

    only_decided : (type : List ℕ) → Decided (HasOnly ds d type j)
    only_decided type =
        decided_and (bool_decided (is_variable d type) false) (decided_and (bool_decided (is_built_in type) false)
        (decided_and (bool_decided (is_type_name type) true) (only_is ds type j (only_constructor_decided ds type))))

    pub bare_of_decided : Decided (IsBareOf ds d t j)
    bare_of_decided =
        decided_as bare of_bare
        (decided_or (named_decided (λ name args. NamesBare ds d name j) (λ name args. names_decided name) t)
        (percent_decided _ (named_decided (λ type args. HasOnly ds d type j) (λ type args. only_decided type)) t))

    -- a bare constructor is a declaration
    pub bare_within : IsBareOf ds d t j → j < length ds
    bare_within (by_name name args is free own lower first) = slice_get_within ds j first.0.0 first.0.1.there
    bare_within (by_type type args c is free own upper only) = slice_get_within ds j c only.one.there

  -- ---- references

  pub points_decided : (k j : ℕ) → Decided (PointsTo ds k j)
  points_decided k j =
      decided_as (λ h. record { d = h.0; t = h.2.1.0; here = h.1; own = h.2.0; there = h.2.1.1; bare = h.2.1.2 }) (λ p. (p.d, p.here, (p.own, (p.t, p.there, p.bare))))
      (at_decided ds k (λ d. (is_constructor d ≡ true) × ((t : Tree) × InFields d t × IsBareOf ds d t j))
      (λ d. decided_and (bool_decided (is_constructor d) true) (in_fields_decided (λ t. IsBareOf ds d t j) (λ t. bare_of_decided d t j) d)))

  pub source_within : (k j : ℕ) → PointsTo ds k j → k < length ds
  source_within k j p = slice_get_within ds k p.d p.here

  pub target_within : (k j : ℕ) → PointsTo ds k j → j < length ds
  target_within k j p = bare_within p.d p.t j p.bare
