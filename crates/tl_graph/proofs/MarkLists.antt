-- Lists of marks: which nodes are marked, and what one more mark changes.
use Rattle.std.proofs.Common.{◌≡◌, ◌⊎◌, inl, inr, ℕ, zero, suc, ◌+◌, ◌<◌, Bool, true, false, not, cond, List, [], ◌∷◌, set, replicate, length, slice_get, get_or, Option, Some, None, refl, sym, ◌∙◌, ap, true≢false, arith}
use Rattle.std.proofs.lemmas.List.Sums.{sum_by-set}
use Rattle.std.proofs.lemmas.Option.{none-some, same_Some, slice_get_within, get_or_from_slice_get}
use Rattle.tl_graph.specs.Needs.{IsMarked}
use Rattle.tl_graph.specs.Steps.{unmarked}
use Rattle.tl_graph.proofs.Deciding.{Decided}

-- ---- which are marked

pub not_both : (marks : List Bool) (j : ℕ) → slice_get marks j ≡ Some false → IsMarked marks j → ⊥
not_both marks j un m = true≢false (sym (same_Some false true (sym un ∙ m)))

by_mark : (marks : List Bool) (j : ℕ) (o : Option Bool) → slice_get marks j ≡ o → Decided (IsMarked marks j)
by_mark marks j None at = inr (λ m. none-some true (sym at ∙ m))
by_mark marks j (Some true) at = inl at
by_mark marks j (Some false) at = inr (not_both marks j at)

pub marked_decided : (marks : List Bool) (j : ℕ) → Decided (IsMarked marks j)
marked_decided marks j = by_mark marks j (slice_get marks j) refl

pub unmarked_at : (marks : List Bool) (j : ℕ) → j < length marks → (IsMarked marks j → ⊥) → slice_get marks j ≡ Some false
unmarked_at [] j below free = absurd (omega (arith, below))
unmarked_at (true ∷ bs) zero below free = absurd (free refl)
unmarked_at (false ∷ bs) zero below free = refl
unmarked_at (b ∷ bs) (suc j) below free = unmarked_at bs j (omega (arith, below)) free

pub none_marked : (n j : ℕ) → IsMarked (replicate n false) j → ⊥
none_marked zero j m = none-some true m
none_marked (suc n) zero m = true≢false (sym (same_Some false true m))
none_marked (suc n) (suc j) m = none_marked n j m

-- ---- one more mark

pub mark_here : (marks : List Bool) (k : ℕ) → k < length marks → IsMarked (set marks k true) k
mark_here [] k below = absurd (omega (arith, below))
mark_here (m ∷ ms) zero below = refl
mark_here (m ∷ ms) (suc k) below = mark_here ms k (omega (arith, below))

pub mark_kept : (marks : List Bool) (k j : ℕ) → IsMarked marks j → IsMarked (set marks k true) j
mark_kept [] k j h = h
mark_kept (m ∷ ms) zero zero h = refl
mark_kept (m ∷ ms) zero (suc j) h = h
mark_kept (m ∷ ms) (suc k) zero h = h
mark_kept (m ∷ ms) (suc k) (suc j) h = mark_kept ms k j h

pub mark_cases : (marks : List Bool) (k j : ℕ) → IsMarked (set marks k true) j → IsMarked marks j ⊎ (j ≡ k)
mark_cases [] k j h = inl h
mark_cases (m ∷ ms) zero zero h = inr refl
mark_cases (m ∷ ms) zero (suc j) h = inl h
mark_cases (m ∷ ms) (suc k) zero h = inl h
mark_cases (m ∷ ms) (suc k) (suc j) h = elim (mark_cases ms k j h) [ inl old ↦ inl old | inr e ↦ inr (ap suc e) ]

pub one_fewer : (marks : List Bool) (j : ℕ) → slice_get marks j ≡ Some false → unmarked (set marks j true) + 1 ≡ unmarked marks
one_fewer marks j un =
    let within : j < length marks = slice_get_within marks j false un in
    let was : get_or marks j false ≡ false = get_or_from_slice_get marks j false false un in
    let changed = sum_by-set (λ b. cond (not b) 1 0) marks j true false within in
    let had : ◌≡◌ {A = ℕ} (cond (not (get_or marks j false)) 1 0) 1 = ap (λ b. cond (not b) 1 0) was in
    omega (arith, changed, had)
