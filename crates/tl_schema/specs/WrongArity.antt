-- The fourth check: numbers of arguments.
-- From "Formal description of TL" (core.telegram.org/mtproto/TL-formal), its type expressions.
use Rattle.std.specs.Prelude.{◌≡◌, ◌≢◌, ◌⊎◌, ℕ, suc, ◌<◌, List, length, true, false, Some}
use Rattle.tl_program.specs.Trees.{Tree, Trees, named, percent, any_call, no_trees, tree}
use Rattle.tl_program.specs.Program.{DeclText}
use Rattle.tl_names.specs.Constructors.{IsUneven}
use Rattle.tl_names.specs.Writing.{is_type_name, is_vector_name, is_built_in, is_variable, own_type, IsConstructorOf, IsConstructorNamed}
use Rattle.tl_names.specs.Writing.{DeclarationHas}
use Rattle.tl_names.specs.Parts.{SomeWritten}

abbrev pub count_of : Trees → ℕ
count_of no_trees = 0
count_of (tree t ts) = suc (count_of ts)

-- so many variables the name has where declaration d writes it; a type has those of its first constructor
pub data HasArity (ds : List DeclText) (d : DeclText) (name : List ℕ) : ℕ → Type 0 where
  variable : is_variable d name ≡ true → HasArity ds d name 0
  vector : is_variable d name ≡ false → is_vector_name name ≡ true → HasArity ds d name 1
  built_in : is_variable d name ≡ false → is_vector_name name ≡ false → is_built_in name ≡ true → HasArity ds d name 0
  type : (j : ℕ) (c : DeclText) → is_variable d name ≡ false → is_built_in name ≡ false → is_type_name name ≡ true → IsConstructorOf ds name j c
      → ((i : ℕ) (b : DeclText) → i < j → IsConstructorOf ds name i b → ⊥) → HasArity ds d name (length c.vars)
  constructor : (j : ℕ) (c : DeclText) → is_variable d name ≡ false → is_built_in name ≡ false → is_type_name name ≡ false → IsConstructorNamed ds name j c
      → ((i : ℕ) (b : DeclText) → i < j → IsConstructorNamed ds name i b → ⊥) → HasArity ds d name (length c.vars)

-- the name has another number of variables where d writes it
pub record IsMisapplied (ds : List DeclText) (d : DeclText) (name : List ℕ) (count : ℕ) : Type 0 where
  pub n : ℕ
  pub arity : HasArity ds d name n
  pub other : count ≢ n

-- the type is a name, applied to another number of types than it has variables
abbrev pub Misapplies : List DeclText → DeclText → Tree → Type 0
Misapplies ds d (named name args) = IsMisapplied ds d name (count_of args)
Misapplies ds d (percent t) = ⊥
Misapplies ds d any_call = ⊥

-- d is an own constructor of such a type
pub record ConstructsUneven (ds : List DeclText) (d : DeclText) : Type 0 where
  pub type : List ℕ
  pub own : own_type d ≡ Some type
  pub uneven : IsUneven ds type

-- d has a wrong number of arguments or variables
abbrev pub IsWrong : List DeclText → DeclText → Type 0
IsWrong ds d = SomeWritten (Misapplies ds) d ⊎ ConstructsUneven ds d

-- declaration k has one
abbrev pub WrongArity : List DeclText → ℕ → Type 0
WrongArity ds = DeclarationHas (IsWrong ds) ds
