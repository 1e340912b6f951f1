-- The first number with a property. This project's own.
use Rattle.std.specs.Prelude.{ℕ, ◌<◌, Option, Some, None}

-- k is the first such number, or there is none
abbrev pub First : (ℕ → Type 0) → Option ℕ → Type 0
First P (Some k) = P k × ((j : ℕ) → j < k → P j → ⊥)
First P None = (k : ℕ) → P k → ⊥
