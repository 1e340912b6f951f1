-- The parts of a type, of a declaration and of a value. This project's own.
use Rattle.std.specs.Prelude.{ℕ, List, [], Bool, true, false, Option, Some, None}
use Rattle.tl_schema.specs.Types.{Shape, vector, boxed, bare}
use Rattle.tl_schema.specs.Closing.{list_of_shapes}
use Rattle.tl_schema.specs.Schemas.{Slot, Declaration}
use Rattle.tl_types.specs.Values.{ValueView, absent}

-- ---- types

-- of the elements of a vector; no other type has any, and stands for itself
abbrev pub item_of : Shape → Shape
item_of (vector is_boxed T) = T
item_of T = T

-- what a type is applied to
abbrev pub arguments_of : Shape → List Shape
arguments_of (boxed h args) = list_of_shapes args
arguments_of (bare i args) = list_of_shapes args
arguments_of T = []

-- ---- declarations, where they are there

abbrev pub name_in : Option Declaration → List ℕ
name_in None = []
name_in (Some d) = d.name

abbrev pub fields_in : Option Declaration → List Slot
fields_in None = []
fields_in (Some d) = d.fields

-- ---- values

abbrev pub is_absent : ValueView → Bool
is_absent absent = true
is_absent v = false
