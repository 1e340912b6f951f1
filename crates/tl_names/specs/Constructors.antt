-- The constructors of a name and of a type.
-- From "TL language" (core.telegram.org/mtproto/TL): a type is what its constructors make.
use Rattle.std.specs.Prelude.{◌≡◌, ◌≢◌, ℕ, List, length, map, IsTrue, ◌↔◌, Option, None, Some}
use Rattle.tl_program.specs.Program.{DeclText}
use Rattle.tl_graph.specs.Firsts.{First}
use Rattle.tl_names.specs.Writing.{At, IsConstructorOf, IsConstructorNamed}
use Rattle.tl_names.specs.declared.index.Constructors.{Constructors}

-- the index of the first constructor with this name
abbrev pub FirstNamed : List DeclText → List ℕ → Option ℕ → Type 0
FirstNamed ds name = First (λ j. (c : DeclText) × IsConstructorNamed ds name j c)

-- the index of the first constructor of this type
abbrev pub FirstOf : List DeclText → List ℕ → Option ℕ → Type 0
FirstOf ds type = First (λ j. (c : DeclText) × IsConstructorOf ds type j c)

-- declaration j is c, and the type of this name has no other constructor
pub record IsOnlyConstructor (ds : List DeclText) (type : List ℕ) (j : ℕ) (c : DeclText) : Type 0 where
  pub one : IsConstructorOf ds type j c
  pub only : (i : ℕ) (b : DeclText) → IsConstructorOf ds type i b → i ≡ j

-- the type has exactly one constructor
abbrev pub IsSingle : List DeclText → List ℕ → Type 0
IsSingle ds type = (j : ℕ) × (c : DeclText) × IsOnlyConstructor ds type j c

-- how many variables each declaration has
abbrev pub var_counts : List DeclText → List ℕ
var_counts ds = map (λ d. length d.vars) ds

-- two own constructors of the type have different numbers of variables
pub record IsUneven (ds : List DeclText) (type : List ℕ) : Type 0 where
  pub i : ℕ
  pub b : DeclText
  pub j : ℕ
  pub c : DeclText
  pub one : IsConstructorOf ds type i b
  pub other : IsConstructorOf ds type j c
  pub apart : length b.vars ≢ length c.vars

-- the first constructor of this type with its number of variables, whether it is the only one, and whether two have different numbers
pub record AreConstructors (ds : List DeclText) (type : List ℕ) (c : Constructors) : Type 0 where
  pub first : FirstOf ds type (Some c.first)
  pub vars : (d : DeclText) → At ds c.first d → length d.vars ≡ c.vars
  pub only : IsTrue c.only ↔ IsSingle ds type
  pub uneven : IsTrue c.uneven ↔ IsUneven ds type

-- the constructors of this type; none where there is none
abbrev pub IsFamily : List DeclText → List ℕ → Option Constructors → Type 0
IsFamily ds type None = FirstOf ds type None
IsFamily ds type (Some c) = AreConstructors ds type c
