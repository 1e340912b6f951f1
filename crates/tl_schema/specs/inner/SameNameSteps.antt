-- Steps of the first check: the names that are known, and what one declaration adds. This project's own.
use Rattle.std.specs.Prelude.{◌≡◌, ℕ, List, Bool, true, false, not, ◌||◌, is_some, bytes_eq, codes}
use Rattle.tl_program.specs.Trees.{Tree, Trees, named}
use Rattle.tl_program.specs.Program.{DeclText}
use Rattle.tl_names.specs.Writing.{is_variable}
use Rattle.tl_names.specs.NameIndexes.{index_among}
use Rattle.tl_schema.specs.declared.same_name.Known.{Known}

abbrev pub is_noted : List (List ℕ × ℕ) → List ℕ → Bool
is_noted names name = is_some (index_among names name)

-- the name is noted, and each other that was
abbrev pub NotesName : List (List ℕ × ℕ) → List (List ℕ × ℕ) → List ℕ → Type 0
NotesName old new name = (n : List ℕ) → is_noted new n ≡ (bytes_eq n name || is_noted old n)

-- the names of the functions, or those of the constructors
abbrev pub names_among : Bool → Known → List (List ℕ × ℕ)
names_among true known = known.functions
names_among false known = known.constructors

-- what a declaration adds, and whether its name was known
pub record AddsName (old new : Known) (d : DeclText) (is_old : Bool) : Type 0 where
  pub known : is_old ≡ is_noted (names_among d.function old) d.name
  pub added : NotesName (names_among d.function old) (names_among d.function new) d.name
  pub others : names_among (not d.function) new ≡ names_among (not d.function) old

-- the type is the name, applied to some types or none
abbrev pub IsOf : List ℕ → Tree → Type 0
IsOf name t = (args : Trees) × (t ≡ named name args)

-- a constructor of `Vector`, and no line of a built-in type
pub record MakesVector (d : DeclText) : Type 0 where
  pub constructor : d.function ≡ false
  pub own : d.builtin ≡ false
  pub no_variable : is_variable d (codes "Vector") ≡ false
  pub made : IsOf (codes "Vector") d.result
