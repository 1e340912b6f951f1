-- A type with others in place of its variables.
-- From "TL language" (core.telegram.org/mtproto/TL), its polymorphic types.
use Rattle.std.specs.Prelude.{List, [], ◌∷◌, get_or}
use Rattle.tl_schema.specs.Types.{Shape, var, vector, boxed, bare, Shapes, no_shapes, shape}

abbrev pub list_of_shapes : Shapes → List Shape
list_of_shapes no_shapes = []
list_of_shapes (shape s ss) = s ∷ list_of_shapes ss

abbrev mutual
  -- the type, with these in place of its variables; a variable past them stays
  pub closed : List Shape → Shape → Shape
  closed args (var i) = get_or args i (var i)
  closed args (vector is_boxed s) = vector is_boxed (closed args s)
  closed args (boxed h ss) = boxed h (closed_each args ss)
  closed args (bare i ss) = bare i (closed_each args ss)
  closed args s = s

  pub closed_each : List Shape → Shapes → Shapes
  closed_each args no_shapes = no_shapes
  closed_each args (shape s ss) = shape (closed args s) (closed_each args ss)
