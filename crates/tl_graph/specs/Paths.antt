-- Graphs, whose nodes are numbers, their paths and cycles. This project's own.
use Rattle.std.specs.Prelude.{◌≡◌, ℕ, ◌<◌, List, length, map, slice_get, Some, Vec}

-- from k one gets to j, by one step or by more
pub data Path (Steps : ℕ → ℕ → Type 0) (k : ℕ) : ℕ → Type 0 where
  step : (j : ℕ) → Steps k j → Path Steps k j
  further : (i j : ℕ) → Path Steps k i → Steps i j → Path Steps k j

-- k stands on a cycle: a path leads back to it
abbrev pub IsOnCycle : (ℕ → ℕ → Type 0) → ℕ → Type 0
IsOnCycle Steps k = Path Steps k k

-- ---- a graph as lists: for each node the nodes that it points to

abbrev pub IsIn : ℕ → List ℕ → Type 0
IsIn j js = (i : ℕ) × (slice_get js i ≡ Some j)

-- an edge leads from k to j
abbrev pub Edge : List (List ℕ) → ℕ → ℕ → Type 0
Edge edges k j = (js : List ℕ) × (slice_get edges k ≡ Some js) × IsIn j js

-- every edge leads to a node
abbrev pub IsGraph : List (List ℕ) → Type 0
IsGraph edges = (k j : ℕ) → Edge edges k j → j < length edges

-- the lists in a list of vectors
abbrev pub edges_in : {A : Type 0} → List (Vec ℕ A) → List (List ℕ)
edges_in edges = map (λ js. js.items) edges
