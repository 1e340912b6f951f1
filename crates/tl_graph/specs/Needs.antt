-- Nodes that need other nodes, and marks of nodes. This project's own.
use Rattle.std.specs.Prelude.{◌≡◌, ℕ, List, map, Vec, Option, Some, Bool, true, slice_get}
use Rattle.std.specs.Option.{option_map}
use Rattle.tl_graph.specs.Paths.{IsIn}

abbrev pub IsMarked : List Bool → ℕ → Type 0
IsMarked marks j = slice_get marks j ≡ Some true

-- node k needs nodes whose needs can be met, or it needs none; the needs of a node without a list are never met
pub data CanBeMet (needs : List (Option (List ℕ))) : ℕ → Type 0 where
  can_be_met : (k : ℕ) (js : List ℕ) → slice_get needs k ≡ Some (Some js) → ((j : ℕ) → IsIn j js → CanBeMet needs j) → CanBeMet needs k

-- the lists in a list of vectors that may be missing
abbrev pub needs_in : {A : Type 0} → List (Option (Vec ℕ A)) → List (Option (List ℕ))
needs_in needs = map (λ o. option_map (λ js. js.items) o) needs
