-- What holds of formed types. This project's own.
use Rattle.std.specs.Prelude.{◌≡◌, ℕ}
use Rattle.tl_schema.specs.Types.{Shape, Shapes}
use Rattle.tl_schema.specs.Schemas.{Declaration, Declared}
use Rattle.tl_schema.specs.CheckedPrograms.{IsSchema}
use Rattle.tl_schema.specs.Closing.{closed, list_of_shapes}
use Rattle.tl_schema.specs.Formed.{IsFormedOver, AreArguments, IsEmpty, IsFunction, count_of, HasFormedFields}

-- in a schema each field of each declaration is formed, built-in types' lines aside
abbrev pub FieldsAreFormed : Type 0
FieldsAreFormed = (schema : Declared) → IsSchema schema → HasFormedFields schema

-- a formed type stays formed where formed arguments stand in place of its variables, and one that takes bytes takes bytes
pub record ClosesFormed (schema : Declared) (n m : ℕ) (args : Shapes) (s : Shape) : Type 0 where
  pub formed : IsFormedOver schema m (closed (list_of_shapes args) s)
  pub bytes : (IsEmpty schema s → ⊥) → IsEmpty schema (closed (list_of_shapes args) s) → ⊥

abbrev pub ClosingKeepsFormed : Type 0
ClosingKeepsFormed = (schema : Declared) (n m : ℕ) (args : Shapes) (s : Shape) → count_of args ≡ n → AreArguments schema m args → IsFormedOver schema n s → ClosesFormed schema n m args s

-- in a schema the result of each function is formed over its variables
abbrev pub ResultsAreFormed : Type 0
ResultsAreFormed = (schema : Declared) → IsSchema schema → (i : ℕ) (d : Declaration) → IsFunction schema i d → IsFormedOver schema d.vars d.result
