-- The type and the declaration that the code's own stand for. This project's own.
use Rattle.std.specs.Prelude.{map}
use Rattle.std.specs.Box.{box_value}
use Rattle.tl_schema.specs.Types.{Shape, shapes_of}
use Rattle.tl_schema.specs.Types as types
use Rattle.tl_schema.specs.Schemas.{Slot, Declaration}
use Rattle.tl_schema.specs.declared.schema.TypeRef.{TypeRef, fold-TypeRef}
use Rattle.tl_schema.specs.declared.schema.TypeRef.TheOpen.{TypeRef-F}
use Rattle.tl_schema.specs.declared.schema.SchemaField.{SchemaField}
use Rattle.tl_schema.specs.declared.schema.Entry.{Entry}

-- one level, with each type inside already seen as its shape
abbrev pub shape_step : TypeRef-F Shape → Shape
shape_step TypeRef-F.Int = types.int
shape_step TypeRef-F.Long = types.long
shape_step TypeRef-F.Nat = types.nat
shape_step TypeRef-F.Double = types.opaque 8
shape_step TypeRef-F.Int128 = types.opaque 16
shape_step TypeRef-F.Int256 = types.opaque 32
shape_step TypeRef-F.Str = types.str
shape_step TypeRef-F.Raw = types.raw
shape_step TypeRef-F.Flag = types.flag
shape_step TypeRef-F.Call = types.call
shape_step (TypeRef-F.Var i) = types.var i
shape_step (TypeRef-F.Vector is_boxed item) = types.vector is_boxed (box_value item)
shape_step (TypeRef-F.Boxed h args) = types.boxed h (shapes_of args.items)
shape_step (TypeRef-F.Bare e args) = types.bare e (shapes_of args.items)

abbrev pub shape : TypeRef → Shape
shape = fold-TypeRef Shape shape_step

abbrev pub slot : SchemaField → Slot
slot f = record { name = f.name; cond = f.cond; var = f.var; of = shape f.of }

abbrev pub declaration : Entry → Declaration
declaration e = record {
  name = e.name;
  number = e.number;
  vars = e.vars;
  fields = map slot e.fields.items;
  function = e.function;
  head = e.head;
  result = shape e.result;
}
