-- Which variables' results a result names, and what is known of them on the way over a call's fields. This project's own.
use Rattle.std.specs.Prelude.{◌≡◌, ℕ, List, length, get_or, Bool, true, false, ◌||◌, ◌==◌}
use Rattle.tl_schema.specs.Types.{Shape, Shapes, no_shapes, shape}
use Rattle.tl_schema.specs.Types as type
use Rattle.tl_schema.specs.Schemas.{Slot, Declaration}
use Rattle.tl_types.specs.Values.{ValueViews}
use Rattle.tl_calls.specs.Results.{results}

abbrev mutual
  -- whether the type names the variable
  pub names : ℕ → Shape → Bool
  names k (type.var i) = i == k
  names k (type.vector is_boxed T) = names k T
  names k (type.boxed h args) = name_in k args
  names k (type.bare i args) = name_in k args
  names k T = false

  pub name_in : ℕ → Shapes → Bool
  name_in k no_shapes = false
  name_in k (shape T args) = names k T || name_in k args

-- the types are as many, and the same at each variable that T names
pub record AgreeOn (T : Shape) (Ts Us : List Shape) : Type 0 where
  pub count : length Ts ≡ length Us
  pub each : (k : ℕ) (d : Shape) → names k T ≡ true → get_or Ts k d ≡ get_or Us k d

-- such results are known of the variables so far, and the fields and values that are left make the whole of them
pub record KnownSoFar (ds : List Declaration) (Knows : List Shape → Type 0) (fs : List Slot) (vs : ValueViews) (whole : List Shape) : Type 0 where
  pub Ts : List Shape
  pub known : Knows Ts
  pub rest : results ds Ts fs vs ≡ whole
