-- The outermost part of a type. This project's own.
use Rattle.std.specs.Prelude.{◌≡◌}
use Rattle.tl_schema.specs.Types.{Shape, Shapes, no_shapes}
use Rattle.tl_schema.specs.Types as type
use Rattle.tl_schema.specs.declared.form.TypeForm.{TypeForm}
use Rattle.tl_schema.specs.declared.form.TypeForm.TheVariants as form

-- the form of a type
abbrev pub HasForm : Shape → TypeForm → Type 0
HasForm T form.Int = T ≡ type.int
HasForm T form.Long = T ≡ type.long
HasForm T form.Nat = T ≡ type.nat
HasForm T form.Double = T ≡ type.opaque 8
HasForm T form.Int128 = T ≡ type.opaque 16
HasForm T form.Int256 = T ≡ type.opaque 32
HasForm T form.Str = T ≡ type.str
HasForm T form.Raw = T ≡ type.raw
HasForm T form.Flag = T ≡ type.flag
HasForm T form.Call = T ≡ type.call
HasForm T (form.Var i) = T ≡ type.var i
HasForm T (form.Vector is_boxed) = (U : Shape) × (T ≡ type.vector is_boxed U)
HasForm T (form.Boxed h) = (args : Shapes) × (T ≡ type.boxed h args)
HasForm T (form.Bare i) = (args : Shapes) × (T ≡ type.bare i args)

-- A type that has nothing but its outermost part: of a vector the elements are any, and what is applied is applied to nothing.
abbrev pub outermost : TypeForm → Shape
outermost form.Int = type.int
outermost form.Long = type.long
outermost form.Nat = type.nat
outermost form.Double = type.opaque 8
outermost form.Int128 = type.opaque 16
outermost form.Int256 = type.opaque 32
outermost form.Str = type.str
outermost form.Raw = type.raw
outermost form.Flag = type.flag
outermost form.Call = type.call
outermost (form.Var i) = type.var i
outermost (form.Vector is_boxed) = type.vector is_boxed type.int
outermost (form.Boxed h) = type.boxed h no_shapes
outermost (form.Bare i) = type.bare i no_shapes
