-- How large values are: measures of the walks over them.
use Rattle.std.proofs.Common.{ℕ, zero, suc, ◌+◌, ◌<◌, ◌≤◌, List, [], ◌∷◌, length, get_or, arith}
use Rattle.tl_types.specs.Values.{ValueView, list, node, call, ValueViews, no_values, value}
use Rattle.tl_types.specs.Seen.{view, views}
use Rattle.tl_types.specs.declared.value.Value.{Value}

abbrev mutual
  pub size : ValueView → ℕ
  size (list vs) = suc (size_of vs)
  size (node i vs) = suc (size_of vs)
  size (call i vs) = suc (size_of vs)
  size v = 1

  pub size_of : ValueViews → ℕ
  size_of no_values = 0
  size_of (value v vs) = size v + size_of vs

pub size_within : (vs : List Value) (i : ℕ) (d : Value) → i < length vs → size (view (get_or vs i d)) ≤ size_of (views vs)
size_within [] i d within = absurd (omega arith)
size_within (v ∷ vs) zero d within = omega arith
size_within (v ∷ vs) (suc i) d within = let later = size_within vs i d (omega arith) in omega arith
