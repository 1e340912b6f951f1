-- The programs that are schemas, and what a check answers. This project's own.
use Rattle.std.specs.Prelude.{◌≡◌, ◌⊎◌, ℕ, ◌<◌, ◌^◌, List, length, Bool, Option, Some, None, Result, Ok, Err, slice_get}
use Rattle.tl_program.specs.Program.{DeclText}
use Rattle.tl_graph.specs.Firsts.{First}
use Rattle.tl_names.specs.Writing.{At}
use Rattle.tl_schema.specs.Schemas.{Declaration, Declared}
use Rattle.tl_schema.specs.Meanings.{IsEntry, IsSmall}
use Rattle.tl_schema.specs.Numbers.{IsNumbered}
use Rattle.tl_schema.specs.CheckCauses.{Passes, RefusedAt}
use Rattle.tl_schema.specs.declared.fault.CheckCause.{CheckCause}
use Rattle.tl_schema.specs.declared.fault.CheckFault.{CheckFault}
use Rattle.tl_schema.specs.declared.fault.CheckFault.TheVariants as check

-- no declaration of the program has a cause, and the entries are those of its declarations, in order
pub record IsSchema (schema : Declared) : Type 0 where
  pub passes : Passes schema.program
  pub small : IsSmall schema.program
  pub count : length schema.decls ≡ length schema.program
  pub entries : (k : ℕ) (d : DeclText) (e : Declaration) → At schema.program k d → slice_get schema.decls k ≡ Some e → IsEntry schema.program d e
  pub fits : (k : ℕ) (e : Declaration) → slice_get schema.decls k ≡ Some e → e.number < 2 ^ 32

-- it is the schema of this program
abbrev pub IsSchemaOf : List DeclText → Declared → Type 0
IsSchemaOf ds schema = IsSchema schema × (schema.program ≡ ds)

-- ---- answers; out of memory is free

-- what is answered is so: the program's schema, or the cause that it has
abbrev pub Checks : List DeclText → Result Declared CheckFault → Type 0
Checks ds (Ok schema) = IsSchemaOf ds schema
Checks ds (Err (check.Refused k cause)) = RefusedAt ds k cause
Checks ds (Err check.Memory) = Unit {0}

-- the answer is the program's schema, or out of memory
abbrev pub GivesSchema : List DeclText → Result Declared CheckFault → Type 0
GivesSchema ds (Ok schema) = IsSchemaOf ds schema
GivesSchema ds (Err fault) = fault ≡ check.Memory

-- the answer is this refusal, or out of memory
abbrev pub RefusesProgram : ℕ → CheckCause → Result Declared CheckFault → Type 0
RefusesProgram k cause (Ok schema) = ⊥
RefusesProgram k cause (Err fault) = (fault ≡ check.Refused k cause) ⊎ (fault ≡ check.Memory)

-- ---- looking for a declaration

-- entry i is a function of this name, or a constructor
abbrev pub HasName : List Declaration → List ℕ → Bool → ℕ → Type 0
HasName es name function i = (e : Declaration) × (slice_get es i ≡ Some e) × (e.name ≡ name) × (e.function ≡ function)

-- the index of the function of this name, or of the constructor
abbrev pub Finds : List Declaration → List ℕ → Bool → Option ℕ → Type 0
Finds es name function = First (HasName es name function)

-- the declaration that has this number and is no line of a built-in type
abbrev pub FindsNumber : List DeclText → ℕ → Option ℕ → Type 0
FindsNumber ds number (Some i) = IsNumbered ds i number
FindsNumber ds number None = (i : ℕ) → IsNumbered ds i number → ⊥
