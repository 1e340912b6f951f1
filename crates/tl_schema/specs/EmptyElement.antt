-- The tenth check: arguments that take no bytes, of which a vector could hold any number in no space.
-- This project's own, over the vectors and bare types of "TL language" (core.telegram.org/mtproto/TL).
use Rattle.std.specs.Prelude.{◌≡◌, ◌⊎◌, ℕ, List}
use Rattle.tl_program.specs.Trees.{Tree, Trees, named, percent, any_call, no_trees, tree}
use Rattle.tl_program.specs.Program.{DeclText}
use Rattle.tl_names.specs.BareFields.{TakesNone}
use Rattle.tl_names.specs.BareReferences.{IsBareOf}
use Rattle.tl_names.specs.Parts.{SomeWritten}
use Rattle.tl_names.specs.Writing.{DeclarationHas}

-- t is one of the types
abbrev pub IsOneOf : Tree → Trees → Type 0
IsOneOf t no_trees = ⊥
IsOneOf t (tree u us) = (t ≡ u) ⊎ IsOneOf t us

-- where d writes it, the type applies a name to a bare constructor that takes no bytes
abbrev pub AppliesToEmpty : List DeclText → DeclText → Tree → Type 0
AppliesToEmpty ds d (named name args) = (t : Tree) × (j : ℕ) × IsOneOf t args × IsBareOf ds d t j × TakesNone ds j
AppliesToEmpty ds d (percent t) = ⊥
AppliesToEmpty ds d any_call = ⊥

-- declaration k writes such a type
abbrev pub EmptyElement : List DeclText → ℕ → Type 0
EmptyElement ds = DeclarationHas (SomeWritten (AppliesToEmpty ds)) ds
