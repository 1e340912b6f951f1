-- The first declaration with a name of a type that has no declaration.
use Rattle.std.proofs.Common.{◌≡◌, ◌⊎◌, inl, inr, ℕ, true, false, List, Option}
use Rattle.tl_lexer.proofs.Whole.{Decided}
use Rattle.tl_combinators.proofs.Decided.{decided_as, decided_not, decided_and, decided_or}
use Rattle.tl_program.specs.Trees.{Tree, named, percent, any_call}
use Rattle.tl_program.specs.Program.{DeclText}
use Rattle.tl_graph.specs.Firsts.{First}
use Rattle.tl_names.specs.Writing.{is_type_name, is_built_in, is_variable, IsConstructorOf, IsConstructorNamed}
use Rattle.tl_names.specs.Parts.{SomeWritten}
use Rattle.tl_schema.specs.UnknownType.{IsUnknown, no_type, no_constructor, BeginsUnknown, UnknownType}
use Rattle.tl_schema.proofs.IndexesDecided.{bool_decided}
use Rattle.tl_schema.proofs.WritingDecided.{constructor_decided, named_constructor_decided, writes_decided}
use Rattle.tl_schema.proofs.Firsts.{first_that}

-- a name that no declaration makes known
abbrev HasNone : List DeclText → List ℕ → Type 0
HasNone ds name =
    ((is_type_name name ≡ true) × (((j : ℕ) × (c : DeclText) × IsConstructorOf ds name j c) → ⊥))
    ⊎ ((is_type_name name ≡ false) × (((j : ℕ) × (c : DeclText) × IsConstructorNamed ds name j c) → ⊥))

module _ (ds : List DeclText) where
  module _ (name : List ℕ) where
    unknown : HasNone ds name → IsUnknown ds name
    unknown (inl (upper, none)) = no_type upper (λ j c there. none (j, c, there))
    unknown (inr (lower, none)) = no_constructor lower (λ j c there. none (j, c, there))

    of_unknown : IsUnknown ds name → HasNone ds name
    of_unknown (no_type upper none) = inl (upper, λ h. none h.0 h.1 h.2)
    of_unknown (no_constructor lower none) = inr (lower, λ h. none h.0 h.1 h.2)

    unknown_decided : Decided (IsUnknown ds name)
    unknown_decided =
        decided_as unknown of_unknown
        (decided_or (decided_and (bool_decided (is_type_name name) true) (decided_not (constructor_decided ds name)))
        (decided_and (bool_decided (is_type_name name) false) (decided_not (named_constructor_decided ds name))))

  pub begins_unknown_decided : (d : DeclText) (u : Tree) → Decided (BeginsUnknown ds d u)
  begins_unknown_decided d (named name args) =
      decided_as (λ h. record { no_variable = h.0; no_built_in = h.1.0; unknown = h.1.1 }) (λ r. (r.no_variable, (r.no_built_in, r.unknown)))
      (decided_and (bool_decided (is_variable d name) false) (decided_and (bool_decided (is_built_in name) false) (unknown_decided name)))
  begins_unknown_decided d (percent u) = inr (λ h. h)
  begins_unknown_decided d any_call = inr (λ h. h)

  pub unknown_type_first : (o : Option ℕ) × First (UnknownType ds) o
  unknown_type_first = first_that ds (SomeWritten (BeginsUnknown ds)) (λ d. writes_decided (BeginsUnknown ds d) (begins_unknown_decided d) d)
