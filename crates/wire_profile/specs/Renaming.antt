-- The numbers of a value's records and calls, by a table. This project's own.
use Rattle.std.specs.Prelude.{ℕ}
use Rattle.tl_types.specs.Values.{ValueView, list, node, call, ValueViews, no_values, value}

abbrev mutual
  -- the value, with the number of each record and call replaced
  pub renamed : (ℕ → ℕ) → ValueView → ValueView
  renamed f (list vs) = list (renamed_each f vs)
  renamed f (node i vs) = node (f i) (renamed_each f vs)
  renamed f (call i vs) = call (f i) (renamed_each f vs)
  renamed f v = v

  pub renamed_each : (ℕ → ℕ) → ValueViews → ValueViews
  renamed_each f no_values = no_values
  renamed_each f (value v vs) = value (renamed f v) (renamed_each f vs)
