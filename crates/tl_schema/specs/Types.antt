-- Types of a schema: closed ones, and those in a declaration, which may name its variables.
-- From "TL language" (core.telegram.org/mtproto/TL): boxed and bare types, and the types that the language has from the start.
use Rattle.std.specs.Prelude.{ℕ, Bool, List, [], ◌∷◌}

mutual
  pub data Shape : Type 0 where
    int : Shape
    long : Shape
    -- `#`
    nat : Shape
    -- so many bytes without a meaning: 8 for double, 16 for int128, 32 for int256
    opaque : ℕ → Shape
    str : Shape
    -- `bytes`
    raw : Shape
    -- `?true`, a flag of no bytes
    flag : Shape
    -- a call of any function
    call : Shape
    -- the variable at this index of its declaration
    var : ℕ → Shape
    -- a vector with its number, or without, of such elements
    vector : Bool → Shape → Shape
    -- one of the constructors of the type with this number, with its own number
    boxed : ℕ → Shapes → Shape
    -- the constructor at this index, without its number
    bare : ℕ → Shapes → Shape

  pub data Shapes : Type 0 where
    no_shapes : Shapes
    shape : Shape → Shapes → Shapes

abbrev pub shapes_of : List Shape → Shapes
shapes_of [] = no_shapes
shapes_of (s ∷ ss) = shape s (shapes_of ss)
