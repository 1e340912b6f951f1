-- Steps of the tenth check: arguments that are marked. This project's own.
use Rattle.std.specs.Prelude.{ℕ, List, Bool}
use Rattle.tl_program.specs.Trees.{Tree, Trees, named, percent, any_call}
use Rattle.tl_program.specs.Program.{DeclText}
use Rattle.tl_graph.specs.Needs.{IsMarked}
use Rattle.tl_names.specs.BareReferences.{IsBareOf}
use Rattle.tl_schema.specs.EmptyElement.{IsOneOf}

-- the type is a bare constructor that is marked
abbrev pub IsMarkedBare : List DeclText → List Bool → DeclText → Tree → Type 0
IsMarkedBare ds marks d t = (j : ℕ) × IsBareOf ds d t j × IsMarked marks j

-- one of the types is
abbrev pub HasMarkedArg : List DeclText → List Bool → DeclText → Trees → Type 0
HasMarkedArg ds marks d args = (t : Tree) × IsOneOf t args × IsMarkedBare ds marks d t

-- the type applies a name to one
abbrev pub AppliesToMarked : List DeclText → List Bool → DeclText → Tree → Type 0
AppliesToMarked ds marks d (named name args) = HasMarkedArg ds marks d args
AppliesToMarked ds marks d (percent t) = ⊥
AppliesToMarked ds marks d any_call = ⊥
