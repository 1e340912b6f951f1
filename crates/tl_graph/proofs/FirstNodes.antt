-- The first number with a property.
use Rattle.std.proofs.Common.{ℕ, ◌<◌, ◌≤◌, None, arith}
use Rattle.tl_graph.specs.Firsts.{First}

-- none of the first i numbers has it, which are all
pub first_none : (P : ℕ → Type 0) (n i : ℕ) → ((k : ℕ) → P k → k < n) → n ≤ i → ((k : ℕ) → k < i → ¬ P k) → First P None
first_none P n i within all none k p = none k (let below = within k p in omega arith) p
