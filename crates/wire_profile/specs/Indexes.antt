-- Where a schema has the forms of the protocol and their types: what a form's fields are there. This project's own.
use Rattle.std.specs.Prelude.{ℕ, List, get_or, Option, Some, None, true, unwrap_or, position, ◌==◌}
use Rattle.tl_schema.specs.Types.{Shape, no_shapes}
use Rattle.tl_schema.specs.Types as type
use Rattle.tl_schema.specs.Schemas.{Slot, Declared}
use Rattle.wire_forms.specs.Forms.{PartView}
use Rattle.wire_forms.specs.declared.form.Cell.{Cell}
use Rattle.wire_forms.specs.declared.form.Cell.TheVariants.{Whole, Signed, Long, Body, Key, Ids, Bodies, Flags, Final, Many, One, Bare, ManyBare, Query}
use Rattle.wire_forms.specs.declared.numbers.TheConstants.{NO_FORM}

-- a schema, the index of each form's declaration, and the number of each type
pub record ProfileView : Type 0 where
  pub schema : Declared
  pub indexes : List ℕ
  pub heads : List ℕ

-- where the list ends before, there is none: no schema has so many declarations or types
abbrev pub number_at : List ℕ → ℕ → ℕ
number_at ns k = get_or ns k NO_FORM

-- the form that has this index
abbrev pub form_at : List ℕ → ℕ → ℕ
form_at indexes i = unwrap_or (position (λ index. index == i) indexes) NO_FORM

-- the type of what stands in a field
abbrev pub cell_shape : ProfileView → Cell → Shape
cell_shape p Whole = type.int
cell_shape p Signed = type.int
cell_shape p Long = type.long
cell_shape p Body = type.raw
cell_shape p Key = type.str
cell_shape p Ids = type.vector true type.int
cell_shape p Bodies = type.vector true type.raw
cell_shape p Flags = type.nat
cell_shape p Final = type.flag
cell_shape p (Many h) = type.vector true (type.boxed (number_at p.heads h) no_shapes)
cell_shape p (One h) = type.boxed (number_at p.heads h) no_shapes
cell_shape p (Bare k) = type.bare (number_at p.indexes k) no_shapes
cell_shape p (ManyBare k) = type.vector true (type.bare (number_at p.indexes k) no_shapes)
cell_shape p Query = type.call

-- the final flag stands by bit 0 of the first field
abbrev pub cell_cond : Cell → Option (ℕ × ℕ)
cell_cond Final = Some (0, 0)
cell_cond c = None

-- what a query answers is the form's variable
abbrev pub cell_var : Cell → Option ℕ
cell_var Query = Some 0
cell_var c = None

abbrev pub slot_of : ProfileView → PartView → Slot
slot_of p part = record { name = part.name; cond = cell_cond part.cell; var = cell_var part.cell; of = cell_shape p part.cell }

-- what a form answers or constructs: a type, or what its query answers
abbrev pub result_shape : ProfileView → Option ℕ → Shape
result_shape p (Some h) = type.boxed (number_at p.heads h) no_shapes
result_shape p None = type.var 0

-- a form has a variable where its result is what its query answers
abbrev pub variables_of : Option ℕ → ℕ
variables_of (Some h) = 0
variables_of None = 1
