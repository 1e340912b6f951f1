-- A step of the seventh check: one field. This project's own.
use Rattle.std.specs.Prelude.{◌≡◌, ℕ, List}
use Rattle.tl_program.specs.Program.{nat, FieldText}

-- the field is `#`, of this name
pub record IsFlags (f : FieldText) (flags : List ℕ) : Type 0 where
  pub number : f.kind ≡ nat
  pub name : f.name ≡ flags
