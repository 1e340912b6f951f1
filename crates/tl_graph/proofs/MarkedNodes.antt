-- Nodes whose needs can be met: what a mark more and a pass over all nodes do.
use Rattle.std.proofs.Common.{◌≡◌, inl, inr, ℕ, ◌+◌, ◌<◌, ◌≤◌, Bool, true, false, List, length, set, Option, Some, None, slice_get, refl, ap, subst, ◌∙◌, sym, true≢false, below_more, arith}
use Rattle.std.proofs.lemmas.List.{length-set}
use Rattle.std.proofs.lemmas.Option.{slice_get_within}
use Rattle.tl_graph.specs.Needs.{IsMarked, CanBeMet, can_be_met}
use Rattle.tl_graph.specs.Steps.{unmarked, IsMetBy, IsMet, MarksMore}
use Rattle.tl_graph.proofs.MarkLists.{mark_kept, mark_cases}

-- ---- needs that are met

module _ (needs : List (Option (List ℕ))) where
  met_can_be : (marks : List Bool) → ((j : ℕ) → IsMarked marks j → CanBeMet needs j) → (k : ℕ) (o : Option (List ℕ)) → slice_get needs k ≡ Some o → IsMetBy o marks → CanBeMet needs k
  met_can_be marks sound k None at met = absurd met
  met_can_be marks sound k (Some js) at met = can_be_met k js at (λ j there. sound j (met j there))

  pub marks_one : (marks : List Bool) (k : ℕ) (o : Option (List ℕ)) → slice_get needs k ≡ Some o → IsMetBy o marks → MarksMore needs marks (set marks k true)
  marks_one marks k o at met = record {
    count = length-set marks k true;
    stays = mark_kept marks k;
    sound = λ sound j h. elim (mark_cases marks k j h) [ inl old ↦ sound j old | inr e ↦ subst (CanBeMet needs) (sym e) (met_can_be marks sound k o at met) ];
  }

  pub marks_none : (marks : List Bool) → MarksMore needs marks marks
  marks_none marks = record { count = refl; stays = λ j h. h; sound = λ sound. sound }

  pub marks_then : (old new newer : List Bool) → MarksMore needs old new → MarksMore needs new newer → MarksMore needs old newer
  marks_then old new newer first second = record {
    count = second.count ∙ first.count;
    stays = λ j h. second.stays j (first.stays j h);
    sound = λ sound. second.sound (first.sound sound);
  }

  -- where each node whose needs are met is marked, each whose needs can be met is
  module _ (marks : List Bool) (complete : (k : ℕ) → IsMet needs marks k → IsMarked marks k) where
    pub met_is_marked : {k : ℕ} → CanBeMet needs k → IsMarked marks k
    met_is_marked (can_be_met k js at each) = complete k (js, at, λ j there. met_is_marked (each j there))

-- ---- one pass over the nodes

-- the first k nodes were tried, and whether one was not marked before
pub record Pass (needs : List (Option (List ℕ))) (old : List Bool) (k : ℕ) (new : List Bool) (is_more : Bool) : Type 0 where
  pub more : MarksMore needs old new
  pub fewer : is_more ≡ true → unmarked new < unmarked old
  pub same : is_more ≡ false → (new ≡ old) × ((j : ℕ) → j < k → IsMet needs old j → IsMarked old j)

module _ (needs : List (Option (List ℕ))) (old : List Bool) where
  pub pass_none : Pass needs old 0 old false
  pass_none = record {
    more = marks_none needs old;
    fewer = λ h. absurd (true≢false (sym h));
    same = λ h. (refl, λ j below. absurd (omega (arith, below)));
  }

  module _ (k : ℕ) (new newer : List Bool) (is_more : Bool) (pass : Pass needs old k new is_more) (more : MarksMore needs new newer) where
    never_more : unmarked new ≤ unmarked old
    never_more = by is_more refl
      where
        by : (b : Bool) → is_more ≡ b → unmarked new ≤ unmarked old
        by true e = let f : unmarked new < unmarked old = pass.fewer e in omega (arith, f)
        by false e = let f : unmarked new ≡ unmarked old = ap unmarked (pass.same e).0 in omega (arith, f)

    -- a node was marked
    pub pass_marked : unmarked newer < unmarked new → Pass needs old (k + 1) newer true
    pass_marked fewer = record {
      more = marks_then needs old new newer pass.more more;
      fewer = λ h. omega (arith, fewer, never_more);
      same = λ h. absurd (true≢false h);
    }

    -- it was marked before, or its needs are not met
    pub pass_kept : newer ≡ new → (IsMet needs new k → IsMarked new k) → Pass needs old (k + 1) newer is_more
    pass_kept is here = record {
      more = marks_then needs old new newer pass.more more;
      fewer = λ h. let f : unmarked new < unmarked old = pass.fewer h in let e : unmarked newer ≡ unmarked new = ap unmarked is in omega (arith, f, e);
      same =
          λ h. let old_is : new ≡ old = (pass.same h).0 in
          (is ∙ old_is, below_more _ _ (pass.same h).1 (subst (λ (marks : List Bool). IsMet needs marks k → IsMarked marks k) old_is here));
    }

  -- all were tried, and none was marked anew
  pub pass_all : (n : ℕ) (new : List Bool) (is_more : Bool) → Pass needs old n new is_more → length needs ≤ n → is_more ≡ false → (k : ℕ) → IsMet needs new k → IsMarked new k
  pass_all n new is_more pass all none k met =
      let same = pass.same none in
      let old_met : IsMet needs old k = subst (λ (marks : List Bool). IsMet needs marks k) same.0 met in
      let within = slice_get_within needs k (Some met.0) met.1 in
      subst (λ (marks : List Bool). IsMarked marks k) (sym same.0) (same.1 k (omega (arith, within, all)) old_met)
