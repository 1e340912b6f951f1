-- Values: what bytes spell.
-- From "Binary data serialization" (core.telegram.org/mtproto/serialize).
use Rattle.std.specs.Prelude.{ℕ, suc, max, ℤ, List, [], ◌∷◌}

mutual
  pub data ValueView : Type 0 where
    int : ℤ → ValueView
    long : ℤ → ValueView
    -- `#`
    nat : ℕ → ValueView
    -- the bytes of a double, an int128 or an int256
    opaque : List ℕ → ValueView
    -- the bytes of a `string` or of `bytes`
    text : List ℕ → ValueView
    -- a flag that is set
    truth : ValueView
    -- a field that isn't there, since its bit is clear
    absent : ValueView
    list : ValueViews → ValueView
    -- a record of declaration i, with the values of its fields
    node : ℕ → ValueViews → ValueView
    -- a call of declaration i, likewise
    call : ℕ → ValueViews → ValueView

  pub data ValueViews : Type 0 where
    no_values : ValueViews
    value : ValueView → ValueViews → ValueViews

abbrev mutual
  -- the levels of a value: of a list, record or call one more than of its deepest part
  pub depth : ValueView → ℕ
  depth (list vs) = suc (depth_of vs)
  depth (node i vs) = suc (depth_of vs)
  depth (call i vs) = suc (depth_of vs)
  depth v = 0

  pub depth_of : ValueViews → ℕ
  depth_of no_values = 0
  depth_of (value v vs) = max (depth v) (depth_of vs)

abbrev pub values_of : List ValueView → ValueViews
values_of [] = no_values
values_of (v ∷ vs) = value v (values_of vs)

abbrev pub list_of : ValueViews → List ValueView
list_of no_values = []
list_of (value v vs) = v ∷ list_of vs

abbrev pub count : ValueViews → ℕ
count no_values = 0
count (value v vs) = suc (count vs)
