-- What a schema holds: its program, and for each declaration of this an entry. This project's own.
use Rattle.std.specs.Prelude.{ℕ, Bool, List, Option}
use Rattle.tl_numbers.specs.declared.numbers.TheConstants.{BOXED_VECTOR, PACKED}
use Rattle.tl_program.specs.Program.{DeclText}
use Rattle.tl_schema.specs.Types.{Shape}

-- a field: its name, the index of the `#` field and the bit that it stands by, the index of its variable if it is a call, and its type
pub record Slot : Type 0 where
  pub name : List ℕ
  pub cond : Option (ℕ × ℕ)
  pub var : Option ℕ
  pub of : Shape

-- a declaration: its name, its number, how many variables it has, its fields, whether it is a function, the number of the type that it
-- constructs, and its result; where it constructs none, the number of types stands in place of its type's
pub record Declaration : Type 0 where
  pub name : List ℕ
  pub number : ℕ
  pub vars : ℕ
  pub fields : List Slot
  pub function : Bool
  pub head : ℕ
  pub result : Shape

pub record Declared : Type 0 where
  pub program : List DeclText
  pub decls : List Declaration

-- 1cb5c415, the number of a boxed vector
abbrev pub vector_number : ℕ
vector_number = BOXED_VECTOR

-- 3072cfa1, the number of a packed value
abbrev pub packed_number : ℕ
packed_number = PACKED
