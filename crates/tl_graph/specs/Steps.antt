-- Steps of the search for a cycle and of the passes that mark nodes. No reading matter: no public function's contract cites this.
-- This project's own.
use Rattle.std.specs.Prelude.{◌≡◌, ◌↔◌, ◌⊎◌, ℕ, ◌+◌, ◌<◌, ◌≤◌, List, length, Option, Some, None, Bool, not, slice_get, get_or}
use Rattle.std.specs.List.{count_by}
use Rattle.tl_graph.specs.Paths.{Edge, IsIn}
use Rattle.tl_graph.specs.Needs.{IsMarked, CanBeMet}

-- how many have no mark
abbrev pub unmarked : List Bool → ℕ
unmarked marks = count_by not marks

-- ---- the search

-- nodes that were not marked are marked, and stand after those that are pending
pub record Reached (old : List Bool) (pending : List ℕ) (nodes : List ℕ) (new : List Bool) (after : List ℕ) : Type 0 where
  pub count : length new ≡ length old
  pub marked : (j : ℕ) → IsMarked new j ↔ (IsMarked old j ⊎ IsIn j nodes)
  pub pends : (j : ℕ) → IsIn j after ↔ (IsIn j pending ⊎ (IsIn j nodes × (IsMarked old j → ⊥)))
  -- each node that is pending anew took the place of one that was not marked
  pub fewer : length after + unmarked new ≡ length pending + unmarked old

-- ---- ranks, which tell of most nodes that they stand on no cycle

abbrev pub rank : List ℕ → ℕ → ℕ
rank ranks k = get_or ranks k 0

-- no edge leads to a higher rank
abbrev pub Falls : List (List ℕ) → List ℕ → Type 0
Falls edges ranks = (k j : ℕ) → Edge edges k j → rank ranks j ≤ rank ranks k

-- an edge leads from k to a node of a higher rank
abbrev pub Rises : List (List ℕ) → List ℕ → ℕ → Type 0
Rises edges ranks k = (j : ℕ) × Edge edges k j × (rank ranks k < rank ranks j)

-- an edge leads from k to a node of its own rank
abbrev pub Stays : List (List ℕ) → List ℕ → ℕ → Type 0
Stays edges ranks k = (j : ℕ) × Edge edges k j × (rank ranks j ≡ rank ranks k)

-- ---- the passes

-- all of these nodes are marked
abbrev pub AreMarked : List ℕ → List Bool → Type 0
AreMarked js marks = (j : ℕ) → IsIn j js → IsMarked marks j

-- nodes are needed, and all of them are marked
abbrev pub IsMetBy : Option (List ℕ) → List Bool → Type 0
IsMetBy None marks = ⊥
IsMetBy (Some js) marks = AreMarked js marks

-- node k needs nodes, and all of them are marked
abbrev pub IsMet : List (Option (List ℕ)) → List Bool → ℕ → Type 0
IsMet needs marks k = (js : List ℕ) × (slice_get needs k ≡ Some (Some js)) × AreMarked js marks

-- more may be marked than before, and only nodes whose needs can be met
pub record MarksMore (needs : List (Option (List ℕ))) (old new : List Bool) : Type 0 where
  pub count : length new ≡ length old
  pub stays : (k : ℕ) → IsMarked old k → IsMarked new k
  pub sound : ((k : ℕ) → IsMarked old k → CanBeMet needs k) → (k : ℕ) → IsMarked new k → CanBeMet needs k
