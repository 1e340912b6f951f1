-- What an index of declarations holds: for each name its first constructor, for each type its number, and by that number its constructors.
-- This project's own.
use Rattle.std.specs.Prelude.{◌≡◌, ℕ, ◌<◌, ◌+◌, ◌^◌, List, is_some, length, bytes_eq, slice_get, Option, None, Some, true, false, not, ◌||◌, ◌==◌, if◌then◌else◌}
use Rattle.tl_program.specs.Program.{DeclText}
use Rattle.tl_names.specs.Constructors.{IsFamily, var_counts}
use Rattle.tl_names.specs.NameIndexes.{Notes, index_among}
use Rattle.tl_names.specs.Indexes.{types_of}
use Rattle.tl_names.specs.What.{constructor_named, type_named}
use Rattle.tl_names.specs.declared.index.Constructors.{Constructors}

-- the constructors at a number, where there is one
abbrev pub at_number : List Constructors → Option ℕ → Option Constructors
at_number families (Some number) = slice_get families number
at_number families None = None

-- the constructors that are kept of a type
abbrev pub at_type : List (List ℕ × ℕ) → List Constructors → List ℕ → Option Constructors
at_type types families type = at_number families (index_among types type)

-- each type's number has constructors, and no other type has it
pub record AreNumbered (types : List (List ℕ × ℕ)) (families : List Constructors) : Type 0 where
  pub within : (type : List ℕ) (number : ℕ) → index_among types type ≡ Some number → number < length families
  pub apart : (type other : List ℕ) (number : ℕ) → index_among types type ≡ Some number → index_among types other ≡ Some number → type ≡ other

-- each name has the index of its first constructor
abbrev pub IndexesNames : List DeclText → List (List ℕ × ℕ) → Type 0
IndexesNames ds names = (name : List ℕ) → index_among names name ≡ constructor_named ds name

-- each type has its number, and at that number its constructors stand
pub record IndexesTypes (ds : List DeclText) (types : List (List ℕ × ℕ)) (families : List Constructors) : Type 0 where
  pub numbers : (type : List ℕ) → index_among types type ≡ type_named ds type
  pub count : length families ≡ length (types_of ds)
  pub made : (type : List ℕ) → IsFamily ds type (at_type types families type)

-- the maps are those of the declarations, which can be counted in 32 bits
pub record IsIndex (ds : List DeclText) (names types : List (List ℕ × ℕ)) (families : List Constructors) (vars : List ℕ) : Type 0 where
  pub named : IndexesNames ds names
  pub made : IndexesTypes ds types families
  pub counted : vars ≡ var_counts ds
  pub few : length ds < 2 ^ 32

-- a constructor with so many variables at this index, after those before it
abbrev pub one_more : ℕ → ℕ → Option Constructors → Constructors
one_more at vars None = record { first = at; vars = vars; only = true; uneven = false }
one_more at vars (Some c) = record { first = c.first; vars = c.vars; only = false; uneven = c.uneven || not (c.vars == vars) }

-- the type has what f makes of what it had, with the next number if it had none, and each other type what it had
pub record Changes (old_types : List (List ℕ × ℕ)) (old : List Constructors) (new_types : List (List ℕ × ℕ)) (new : List Constructors) (name : List ℕ) (f : Option Constructors → Constructors) : Type 0 where
  pub numbers : Notes old_types new_types name (length old)
  pub count : length new ≡ (if is_some (index_among old_types name) then length old else length old + 1)
  pub made : (type : List ℕ) → at_type new_types new type ≡ (if bytes_eq type name then Some (f (at_type old_types old type)) else at_type old_types old type)
