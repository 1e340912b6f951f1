-- What takes held items: one item, and items in turn. This project's own.
use Rattle.std.specs.Prelude.{◌≡◌, ℕ, ◌+◌, ◌≤◌, List, [], ◌∷◌, ◌++◌, Some, Vec, vec_len, vec_capacity}
use Rattle.std.specs.FinMap as map
use Rattle.pts_machine.specs.Holding.{Items}

-- the item is one of some held items, for which there is room
abbrev pub IsHeldIn : {E : Type 0} → (Items E → Type 0) → E → Type 0
IsHeldIn {E} HasRoom item = (m : Items E) × (p end : ℕ) × (map.get m p ≡ Some (end, item)) × HasRoom m

-- these items were taken one after the other
pub data InTurn {S E : Type 0} (took : S → E → S → Type 0) : S → List E → S → Type 0 where
  none : (x : S) → InTurn took x [] x
  one_more : (x y z : S) (item : E) (items : List E) → took x item y → InTurn took y items z → InTurn took x (item ∷ items) z

-- a vector has room for held items
abbrev pub HasRoom : {E A : Type 0} → Vec E A → Items E → Type 0
HasRoom v m = vec_len v + map.len m ≤ vec_capacity v

-- an item stands after the others of a vector
abbrev pub Pushed : {E A : Type 0} → Vec E A → E → Vec E A → Type 0
Pushed v item w = (w.items ≡ v.items ++ item ∷ []) × (vec_len w ≡ vec_len v + 1) × (vec_capacity v ≤ vec_capacity w)
