-- What a schema keeps beside its entries: the indices of names and of numbers, and which constructors take no bytes. This project's own.
use Rattle.std.specs.Prelude.{ℕ, List, Bool, true, false, Option, nat_eq}
use Rattle.std.specs.Map.{lookup}
use Rattle.tl_program.specs.Program.{DeclText}
use Rattle.tl_names.specs.NameIndexes.{index_among}
use Rattle.tl_names.specs.inner.BareSteps.{MarksEmpty}
use Rattle.tl_schema.specs.CheckedPrograms.{IsSchema, Finds, FindsNumber}
use Rattle.tl_schema.specs.Schemas.{Declaration, Declared}

-- the indexes are those of the functions among the entries, or of the constructors
abbrev pub AreIndexes : List Declaration → Bool → List (List ℕ × ℕ) → Type 0
AreIndexes es function indexes = (name : List ℕ) → Finds es name function (index_among indexes name)

abbrev pub number_in : List (ℕ × ℕ) → ℕ → Option ℕ
number_in numbers number = lookup (nat_eq number) numbers

-- each number has the declaration that has it
abbrev pub AreNumbers : List DeclText → List (ℕ × ℕ) → Type 0
AreNumbers ds numbers = (number : ℕ) → FindsNumber ds number (number_in numbers number)

-- ---- a schema

pub record IsSound (schema : Declared) (constructors functions : List (List ℕ × ℕ)) (numbers : List (ℕ × ℕ)) (empties : List Bool) : Type 0 where
  pub good : IsSchema schema
  pub of_constructors : AreIndexes schema.decls false constructors
  pub of_functions : AreIndexes schema.decls true functions
  pub of_numbers : AreNumbers schema.program numbers
  pub of_empties : MarksEmpty schema.program empties
