-- Whether there is a path between two nodes, where steps are decided and lead to nodes below a number.
use Rattle.std.proofs.Common.{◌⊎◌, inl, inr, ℕ, ◌<◌, Bool, true, List, length}
use Rattle.std.proofs.lemmas.Option.{slice_get_within}
use Rattle.tl_graph.specs.Paths.{Path, step, further}
use Rattle.tl_graph.specs.Needs.{IsMarked}
use Rattle.tl_graph.proofs.Deciding.{Decided, decided_not, decided_and, decided_or, below_decided}
use Rattle.tl_graph.proofs.MarkLists.{marked_decided}
use Rattle.tl_graph.proofs.GrowingMarks.{AreSound, Grows, marks_decide}

module _ (Steps : ℕ → ℕ → Type 0) (k : ℕ) where
  -- a path begins with a step
  pub first_step : (j : ℕ) → Path Steps k j → (i : ℕ) × Steps k i
  first_step _ (step j s) = (j, s)
  first_step _ (further i j path s) = first_step i path

  module _ (n : ℕ) (test : (i j : ℕ) → Decided (Steps i j)) (within : (i j : ℕ) → Steps i j → j < n) where
    module _ (marks : List Bool) where
      -- a step leads to j from k, or from a node that is marked
      abbrev LeadsTo : ℕ → Type 0
      LeadsTo j = Steps k j ⊎ ((i : ℕ) × (i < length marks) × (IsMarked marks i × Steps i j))

      -- and j is not marked yet
      abbrev IsNext : ℕ → Type 0
      IsNext j = (IsMarked marks j → ⊥) × LeadsTo j

      next_decided : (j : ℕ) → Decided (IsNext j)
      next_decided j =
          decided_and (decided_not (marked_decided marks j))
          (decided_or (test k j) (below_decided (λ i. IsMarked marks i × Steps i j) (λ i. decided_and (marked_decided marks i) (test i j)) (length marks)))

      path_to : AreSound (Path Steps k) marks → (j : ℕ) → LeadsTo j → Path Steps k j
      path_to sound j (inl s) = step j s
      path_to sound j (inr (i, below, (m, s))) = further i j (sound i m) s

      module _ (none : ((j : ℕ) × (j < n) × IsNext j) → ⊥) where
        marked_by : (j : ℕ) → j < n → LeadsTo j → Decided (IsMarked marks j) → IsMarked marks j
        marked_by j below leads (inl m) = m
        marked_by j below leads (inr free) = absurd (none (j, below, (free, leads)))

        all_marked : (j : ℕ) → Path Steps k j → IsMarked marks j
        all_marked _ (step j s) = marked_by j (within k j s) (inl s) (marked_decided marks j)
        all_marked _ (further i j path s) =
            let m = all_marked i path in marked_by j (within i j s) (inr (i, slice_get_within marks i true m, (m, s))) (marked_decided marks j)

      grown : AreSound (Path Steps k) marks → Decided ((j : ℕ) × (j < n) × IsNext j) → Grows (Path Steps k) n marks
      grown sound (inl (j, below, (free, leads))) = inl (j, below, free, path_to sound j leads)
      grown sound (inr none) = inr (all_marked none)

    pub path_decided : (j : ℕ) → Decided (Path Steps k j)
    path_decided = marks_decide (Path Steps k) n (λ marks width sound. grown marks sound (below_decided (IsNext marks) (next_decided marks) n))
