-- The first declaration with `%` before a type that has no bare form.
use Rattle.std.proofs.Common.{◌≡◌, ◌⊎◌, inl, inr, ℕ, true, false, List, Option}
use Rattle.std.specs.Prelude.{codes}
use Rattle.tl_lexer.proofs.Whole.{Decided}
use Rattle.tl_combinators.proofs.Decided.{decided_as, decided_not, decided_and, decided_or}
use Rattle.tl_program.specs.Trees.{Tree, Trees, named, percent, any_call}
use Rattle.tl_program.specs.Program.{DeclText}
use Rattle.tl_graph.specs.Firsts.{First}
use Rattle.tl_names.specs.Writing.{is_type_name, is_variable}
use Rattle.tl_names.specs.Parts.{SomeWritten}
use Rattle.tl_names.specs.Constructors.{IsOnlyConstructor}
use Rattle.tl_schema.specs.NotBare.{HasBare, vector, single, HasNoBare, NotBare}
use Rattle.tl_schema.proofs.IndexesDecided.{bool_decided}
use Rattle.tl_schema.proofs.TypesDecided.{named_decided, this_name_decided}
use Rattle.tl_schema.proofs.WritingDecided.{only_constructor_decided, writes_decided}
use Rattle.tl_schema.proofs.Firsts.{first_that}

abbrev IsVector : DeclText → Tree → Type 0
IsVector d t = (is_variable d (codes "Vector") ≡ false) × ((args : Trees) × (t ≡ named (codes "Vector") args))

-- a type with exactly one constructor
abbrev IsSingle : List DeclText → DeclText → Tree → Type 0
IsSingle ds d t =
    (type : List ℕ) × (args : Trees) × (t ≡ named type args)
    × ((is_variable d type ≡ false) × ((is_type_name type ≡ true) × ((j : ℕ) × (c : DeclText) × IsOnlyConstructor ds type j c)))

module _ (ds : List DeclText) where
  module _ (d : DeclText) (t : Tree) where
    bare : IsVector d t ⊎ IsSingle ds d t → HasBare ds d t
    bare (inl (free, (args, is))) = vector args free is
    bare (inr (type, args, is, (free, (upper, (j, c, only))))) = single type args j c free upper is only

    of_bare : HasBare ds d t → IsVector d t ⊎ IsSingle ds d t
    of_bare (vector args free is) = inl (free, (args, is))
    of_bare (single type args j c free upper is only) = inr (type, args, is, (free, (upper, (j, c, only))))

    pub bare_decided : Decided (HasBare ds d t)
    bare_decided =
        decided_as bare of_bare (decided_or (decided_and (bool_decided (is_variable d (codes "Vector")) false) (this_name_decided (codes "Vector") t))
        (named_decided _ (λ type args. decided_and (bool_decided (is_variable d type) false) (decided_and (bool_decided (is_type_name type) true) (only_constructor_decided ds type))) t))

  pub no_bare_decided : (d : DeclText) (u : Tree) → Decided (HasNoBare ds d u)
  no_bare_decided d (named name args) = inr (λ h. h)
  no_bare_decided d (percent t) = decided_not (bare_decided d t)
  no_bare_decided d any_call = inr (λ h. h)

  pub not_bare_first : (o : Option ℕ) × First (NotBare ds) o
  not_bare_first = first_that ds (SomeWritten (HasNoBare ds)) (λ d. writes_decided (HasNoBare ds d) (no_bare_decided d) d)
