-- Nodes that are reached one by one.
use Rattle.std.proofs.Common.{◌≡◌, ◌⊎◌, inl, inr, ℕ, Bool, true, false, List, [], ◌∷◌, ◌++◌, set, slice_get, Some, refl, sym, ◌∙◌, subst, arith}
use Rattle.std.proofs.lemmas.List.{length-set, length-append}
use Rattle.std.proofs.lemmas.Option.{slice_get_within}
use Rattle.tl_graph.specs.Paths.{IsIn}
use Rattle.tl_graph.specs.Needs.{IsMarked}
use Rattle.tl_graph.specs.Steps.{Reached}
use Rattle.tl_graph.proofs.NodeLists.{in_none, in_before, in_last, in_push}
use Rattle.tl_graph.proofs.MarkLists.{not_both, mark_here, mark_kept, mark_cases, one_fewer}

module _ (old : List Bool) (pending : List ℕ) where
  pub reached_none : Reached old pending [] old pending
  reached_none = record {
    count = refl;
    marked = λ j. (λ m. inl m, λ s. elim s [ inl m ↦ m | inr here ↦ absurd (in_none j here) ]);
    pends = λ j. (λ h. inl h, λ s. elim s [ inl h ↦ h | inr h ↦ absurd (in_none j h.0) ]);
    fewer = refl;
  }

  module _ (js : List ℕ) (new : List Bool) (after : List ℕ) (r : Reached old pending js new after) (j : ℕ) where
    in_more : (x : ℕ) → IsMarked old x ⊎ IsIn x js → IsMarked old x ⊎ IsIn x (js ++ j ∷ [])
    in_more x (inl m) = inl m
    in_more x (inr here) = inr (in_before js x j here)

    waits_more : (x : ℕ) → IsIn x pending ⊎ (IsIn x js × (IsMarked old x → ⊥)) → IsIn x pending ⊎ (IsIn x (js ++ j ∷ []) × (IsMarked old x → ⊥))
    waits_more x (inl h) = inl h
    waits_more x (inr (here, un)) = inr (in_before js x j here, un)

    -- it was reached before
    module _ (m : IsMarked new j) where
      marked_again : (x : ℕ) → IsMarked old x ⊎ IsIn x (js ++ j ∷ []) → IsMarked new x
      marked_again x (inl h) = (r.marked x).1 (inl h)
      marked_again x (inr here) = elim (in_push js x j here) [ inl h ↦ (r.marked x).1 (inr h) | inr e ↦ subst (IsMarked new) (sym e) m ]

      in_already : (IsMarked old j → ⊥) → IsIn j js
      in_already un = elim ((r.marked j).0 m) [ inl h ↦ absurd (un h) | inr here ↦ here ]

      pends_again : (x : ℕ) → IsIn x pending ⊎ (IsIn x (js ++ j ∷ []) × (IsMarked old x → ⊥)) → IsIn x after
      pends_again x (inl h) = (r.pends x).1 (inl h)
      pends_again x (inr (here, un)) = elim (in_push js x j here) [
        | inl h ↦ (r.pends x).1 (inr (h, un))
        | inr e ↦ subst (λ y. IsIn y after) (sym e) ((r.pends j).1 (let un_j = subst (λ y. IsMarked old y → ⊥) e un in inr (in_already un_j, un_j)))
      ]

      pub reached_again : Reached old pending (js ++ j ∷ []) new after
      reached_again = record {
        count = r.count;
        marked = λ x. (λ h. in_more x ((r.marked x).0 h), marked_again x);
        pends = λ x. (λ h. waits_more x ((r.pends x).0 h), pends_again x);
        fewer = r.fewer;
      }

    -- it was not
    module _ (un : slice_get new j ≡ Some false) where
      of_marked : (x : ℕ) → IsMarked new x ⊎ (x ≡ j) → IsMarked old x ⊎ IsIn x (js ++ j ∷ [])
      of_marked x (inl h) = in_more x ((r.marked x).0 h)
      of_marked x (inr e) = inr (subst (λ y. IsIn y (js ++ j ∷ [])) (sym e) (in_last js j))

      marked_new : (x : ℕ) → IsMarked old x ⊎ IsIn x (js ++ j ∷ []) → IsMarked (set new j true) x
      marked_new x (inl h) = mark_kept new j x ((r.marked x).1 (inl h))
      marked_new x (inr here) = elim (in_push js x j here) [
        | inl h ↦ mark_kept new j x ((r.marked x).1 (inr h))
        | inr e ↦ subst (IsMarked (set new j true)) (sym e) (mark_here new j (slice_get_within new j false un))
      ]

      of_waiting : (x : ℕ) → IsIn x after ⊎ (x ≡ j) → IsIn x pending ⊎ (IsIn x (js ++ j ∷ []) × (IsMarked old x → ⊥))
      of_waiting x (inl h) = waits_more x ((r.pends x).0 h)
      of_waiting x (inr e) = subst (λ y. IsIn y pending ⊎ (IsIn y (js ++ j ∷ []) × (IsMarked old y → ⊥))) (sym e) (inr (in_last js j, λ m. not_both new j un ((r.marked j).1 (inl m))))

      waits_new : (x : ℕ) → IsIn x pending ⊎ (IsIn x (js ++ j ∷ []) × (IsMarked old x → ⊥)) → IsIn x (after ++ j ∷ [])
      waits_new x (inl h) = in_before after x j ((r.pends x).1 (inl h))
      waits_new x (inr (here, no_mark)) = elim (in_push js x j here) [
        | inl h ↦ in_before after x j ((r.pends x).1 (inr (h, no_mark)))
        | inr e ↦ subst (λ y. IsIn y (after ++ j ∷ [])) (sym e) (in_last after j)
      ]

      pub reached_new : Reached old pending (js ++ j ∷ []) (set new j true) (after ++ j ∷ [])
      reached_new = record {
        count = length-set new j true ∙ r.count;
        marked = λ x. (λ h. of_marked x (mark_cases new j x h), marked_new x);
        pends = λ x. (λ h. of_waiting x (in_push after x j h), waits_new x);
        fewer = let f = r.fewer in omega (arith, f, length-append after (j ∷ []), one_fewer new j un);
      }
