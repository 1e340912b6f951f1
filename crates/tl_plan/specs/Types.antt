-- Types of a plan: how deep they are, which are one, and where they stand in a list. This project's own.
use Rattle.std.specs.Prelude.{ℕ, zero, suc, max, List, [], ◌∷◌, Bool, true, false, ◌&&◌, ◌||◌, ◌==◌, if◌then◌else◌}
use Rattle.tl_schema.specs.Types.{Shape, int, long, nat, opaque, str, raw, flag, call, var, vector, boxed, bare, Shapes, no_shapes, shape}
use Rattle.tl_schema.specs.Closing.{list_of_shapes}

-- ---- levels

abbrev mutual
  -- a vector has one level more than its elements, and what is applied to types one more than the deepest of them; each other type has one
  pub levels : Shape → ℕ
  levels (vector is_boxed T) = suc (levels T)
  levels (boxed h args) = suc (deepest args)
  levels (bare i args) = suc (deepest args)
  levels T = 1

  pub deepest : Shapes → ℕ
  deepest no_shapes = 0
  deepest (shape T args) = max (levels T) (deepest args)

-- what a type is applied to
abbrev pub arguments_of : Shape → List Shape
arguments_of (boxed h args) = list_of_shapes args
arguments_of (bare i args) = list_of_shapes args
arguments_of T = []

-- ---- equal types

abbrev pub is_equal : Bool → Bool → Bool
is_equal true b = b
is_equal false true = false
is_equal false false = true

abbrev mutual
  -- whether two types are one (`same_types`, a law, says that it is so)
  pub is_same : Shape → Shape → Bool
  is_same int int = true
  is_same long long = true
  is_same nat nat = true
  is_same (opaque m) (opaque n) = m == n
  is_same str str = true
  is_same raw raw = true
  is_same flag flag = true
  is_same call call = true
  is_same (var i) (var j) = i == j
  is_same (vector b T) (vector c U) = is_equal b c && is_same T U
  is_same (boxed h args) (boxed k brgs) = (h == k) && are_same args brgs
  is_same (bare i args) (bare j brgs) = (i == j) && are_same args brgs
  is_same T U = false

  pub are_same : Shapes → Shapes → Bool
  are_same no_shapes no_shapes = true
  are_same (shape T args) (shape U brgs) = is_same T U && are_same args brgs
  are_same args brgs = false

-- ---- lists of types

-- whether the type stands in the list
abbrev pub is_among : Shape → List Shape → Bool
is_among T [] = false
is_among T (U ∷ Us) = is_same T U || is_among T Us

-- the first index at which it stands, or the length
abbrev pub index_of : Shape → List Shape → ℕ
index_of T [] = zero
index_of T (U ∷ Us) = if is_same T U then zero else suc (index_of T Us)
