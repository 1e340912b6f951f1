-- Items in order of start, and where one stands or belongs. This project's own.
use Rattle.std.specs.Prelude.{◌≡◌, ℕ, ◌<◌, ◌≤◌, T, List, length, Result, Ok, Err}
use Rattle.std.specs.Ordering.{nat_cmp}
use Rattle.std.specs.FinMap.{is_sorted}
use Rattle.std.specs.List.{HoldsAt}
use Rattle.std.specs.List.Sorted.{IsPartitionPoint}

-- each item starts above the one before it
abbrev pub AreRising : {X : Type 0} → List (ℕ × X) → Type 0
AreRising es = T (is_sorted nat_cmp es)

-- the item at this index has the start, or, where none has it, those before it start below and the others above
abbrev pub IsIndex : {X : Type 0} → List (ℕ × X) → ℕ → Result ℕ ℕ → Type 0
IsIndex es q (Ok i) = (i < length es) × HoldsAt (λ e. e.0 ≡ q) es i
IsIndex es q (Err i) = (i ≤ length es) × IsPartitionPoint (λ e. e.0 < q) (λ e. q < e.0) es i
