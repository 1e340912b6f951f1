-- Marks are added one by one until none is left to add.
-- So a property of nodes is decided, where from any marks of nodes that have it comes one more such node, or that no other has it.
use Rattle.std.proofs.Common.{◌≡◌, ◌⊎◌, inl, inr, ℕ, zero, suc, ◌<◌, Bool, true, false, List, length, set, replicate, refl, subst, sym, ◌∙◌, arith}
use Rattle.std.proofs.lemmas.List.{length-replicate, length-set}
use Rattle.tl_graph.specs.Needs.{IsMarked}
use Rattle.tl_graph.specs.Steps.{unmarked}
use Rattle.tl_graph.proofs.Deciding.{Decided, decided_as}
use Rattle.tl_graph.proofs.MarkLists.{marked_decided, unmarked_at, none_marked, mark_cases, one_fewer}

-- all that are marked have it
abbrev pub AreSound : (ℕ → Type 0) → List Bool → Type 0
AreSound P marks = (j : ℕ) → IsMarked marks j → P j

-- some node below n that isn't marked has it, or none
abbrev pub Grows : (ℕ → Type 0) → ℕ → List Bool → Type 0
Grows P n marks = ((j : ℕ) × (j < n) × (IsMarked marks j → ⊥) × P j) ⊎ ((j : ℕ) → P j → IsMarked marks j)

module _ (P : ℕ → Type 0) (n : ℕ) (grow : (marks : List Bool) → length marks ≡ n → AreSound P marks → Grows P n marks) where
  abbrev Exactly : Type 0
  Exactly = (marks : List Bool) × AreSound P marks × ((j : ℕ) → P j → IsMarked marks j)

  still_sound : (marks : List Bool) (j : ℕ) → AreSound P marks → P j → (i : ℕ) → IsMarked marks i ⊎ (i ≡ j) → P i
  still_sound marks j sound p i (inl m) = sound i m
  still_sound marks j sound p i (inr e) = subst P (sym e) p

  -- with k nodes that are not marked, at most k more are to be marked
  marks_from : (k : ℕ) (marks : List Bool) → length marks ≡ n → unmarked marks ≡ k → AreSound P marks → Grows P n marks → Exactly
  marks_from k marks width count sound (inr complete) = (marks, sound, complete)
  marks_from zero marks width count sound (inl (j, below, free, p)) =
      let fewer = one_fewer marks j (unmarked_at marks j (omega (arith, width, below)) free) in absurd (omega (arith, fewer, count))
  marks_from (suc k) marks width count sound (inl (j, below, free, p)) =
      let fewer = one_fewer marks j (unmarked_at marks j (omega (arith, width, below)) free) in
      let more = set marks j true in
      let same : length more ≡ n = length-set marks j true ∙ width in
      let all : AreSound P more = λ i m. still_sound marks j sound p i (mark_cases marks j i m) in
      marks_from k more same (omega (arith, fewer, count)) all (grow more same all)

  exactly : Exactly
  exactly =
      let none = replicate n false in
      let same = length-replicate n false in
      let sound : AreSound P none = λ j m. absurd (none_marked n j m) in
      marks_from (unmarked none) none same refl sound (grow none same sound)

  pub marks_decide : (j : ℕ) → Decided (P j)
  marks_decide j = decided_as (exactly.1 j) (exactly.2 j) (marked_decided exactly.0 j)
