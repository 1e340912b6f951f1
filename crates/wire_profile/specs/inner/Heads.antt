-- Boxed types without arguments. This project's own.
use Rattle.std.specs.Prelude.{ℕ, Option, Some, None}
use Rattle.tl_schema.specs.Types.{Shape, boxed, no_shapes}

abbrev pub head_in : Shape → Option ℕ
head_in (boxed h no_shapes) = Some h
head_in T = None
