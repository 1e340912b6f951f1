-- Held items that follow one another.
-- From "Working with Updates" (core.telegram.org/api/updates): what comes before its turn waits until the gap closes.
use Rattle.std.specs.Prelude.{◌≡◌, ℕ, zero, suc, ◌<◌, List, [], ◌∷◌, Some, None}
use Rattle.std.specs.Option.{option_map_or}
use Rattle.std.specs.FinMap as map
use Rattle.pts_machine.specs.Holding.{Items}

-- the held events that follow from p, each from where the one before it ends, at most n of them
unfoldable pub chain : {E : Type 0} → ℕ → ℕ → Items E → List E
chain zero p m = []
chain (suc n) p m = option_map_or (λ x. x.1 ∷ chain n x.0 m) (map.get m p) []

-- the position that they reach
unfoldable pub reach : {E : Type 0} → ℕ → ℕ → Items E → ℕ
reach zero p m = p
reach (suc n) p m = option_map_or (λ x. reach n x.0 m) (map.get m p) p

-- each item ends after its start
abbrev pub EndsAfter : {E : Type 0} → Items E → Type 0
EndsAfter {E} m = (s : ℕ) (x : ℕ × E) → map.get m s ≡ Some x → s < x.0

-- Over everything held the bound on their number says nothing: where no item starts at p, the chain is empty and reaches p;
-- else it is that item, followed by the chain from its end.
abbrev pub AreChained : {E : Type 0} → Items E → Type 0
AreChained {E} m = (p : ℕ) →
    (map.get m p ≡ None → (chain (map.len m) p m ≡ []) × (reach (map.len m) p m ≡ p))
    × ((x : ℕ × E) → map.get m p ≡ Some x → (chain (map.len m) p m ≡ x.1 ∷ chain (map.len m) x.0 m) × (reach (map.len m) p m ≡ reach (map.len m) x.0 m))
