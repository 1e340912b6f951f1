-- Paths of a graph: where they begin, along another relation, and where no edge leads to a higher rank.
use Rattle.std.proofs.Common.{inl, inr, ℕ, ◌<◌, ◌≤◌, List, length, arith}
use Rattle.std.proofs.lemmas.Bool.{cases_lt}
use Rattle.std.proofs.lemmas.Option.{slice_get_within}
use Rattle.tl_graph.specs.Paths.{Path, step, further, Edge, IsOnCycle}
use Rattle.tl_graph.specs.Steps.{rank, Falls, Rises, Stays}

-- a path along one relation is one along another that holds where it does
pub along : (S T : ℕ → ℕ → Type 0) → ((i j : ℕ) → S i j → T i j) → (k j : ℕ) → Path S k j → Path T k j
along S T leads k _ (step j s) = step j (leads k j s)
along S T leads k _ (further i j p s) = further i j (along S T leads k i p) (leads i j s)

pub begins_within : (edges : List (List ℕ)) (k j : ℕ) → Path (Edge edges) k j → k < length edges
begins_within edges k _ (step j e) = slice_get_within edges k e.0 e.1
begins_within edges k _ (further i j p e) = begins_within edges k i p

module _ (edges : List (List ℕ)) (ranks : List ℕ) (falls : Falls edges ranks) where
  -- the path's first step, after which the rank never rises
  first_step : (k j : ℕ) → Path (Edge edges) k j → (i : ℕ) × Edge edges k i × (rank ranks j ≤ rank ranks i)
  first_step k _ (step j e) = (j, e, omega arith)
  first_step k _ (further i j p e) =
      let first = first_step k i p in
      let down = falls i j e in
      (first.0, first.1, omega (arith, first.2, down))

  -- so a node on a cycle has an edge to one of its own rank
  pub cycle_stays : (k : ℕ) → IsOnCycle (Edge edges) k → Stays edges ranks k
  cycle_stays k p =
      let first = first_step k k p in
      let down = falls k first.0 first.1 in
      (first.0, first.1, omega (arith, first.2, down))

-- no edge from one of the nodes leads to a higher rank
pub none_rises : (edges : List (List ℕ)) (ranks : List ℕ) (n : ℕ) → length edges ≤ n → ((k : ℕ) → k < n → Rises edges ranks k → ⊥) → Falls edges ranks
none_rises edges ranks n all none k j e =
    let within = slice_get_within edges k e.0 e.1 in
    elim (cases_lt (rank ranks k) (rank ranks j)) [ inl up ↦ absurd (none k (omega (arith, within, all)) (j, e, up)) | inr down ↦ down ]
