-- A step of the eighth check: one number. This project's own.
use Rattle.std.specs.Prelude.{◌≡◌, ◌⊎◌, ℕ}
use Rattle.tl_schema.specs.Schemas.{packed_number, vector_number}

-- a number with a meaning of its own
abbrev pub IsTaken : ℕ → Type 0
IsTaken number = (number ≡ packed_number) ⊎ (number ≡ vector_number)
