-- Which nodes a search from a node has reached.
use Rattle.std.proofs.Common.{◌≡◌, ◌⊎◌, inl, inr, ◌↔◌, ℕ, Bool, true, List, [], ◌∷◌, ◌++◌, length, slice_get, Some, ◌<◌, sym, ◌∙◌, subst, arith}
use Rattle.std.proofs.lemmas.Option.{slice_get_within}
use Rattle.tl_graph.specs.Paths.{Path, step, further, Edge, IsIn}
use Rattle.tl_graph.specs.Needs.{IsMarked}
use Rattle.tl_graph.specs.Steps.{Reached}
use Rattle.tl_graph.proofs.NodeLists.{in_none, in_last, in_before, in_push, edge_into}
use Rattle.tl_graph.proofs.MarkLists.{marked_decided}

-- a path leads from k to each node that is marked, and each edge from such a node is still to be gone along or leads to such a node
pub record Explored (edges : List (List ℕ)) (k : ℕ) (marks : List Bool) (pending : List ℕ) : Type 0 where
  pub count : length marks ≡ length edges
  pub sound : (j : ℕ) → IsMarked marks j → Path (Edge edges) k j
  pub waits : (j : ℕ) → IsIn j pending → IsMarked marks j
  pub start : (j : ℕ) → Edge edges k j → IsMarked marks j
  pub closed : (i j : ℕ) → IsMarked marks i → Edge edges i j → IsIn i pending ⊎ IsMarked marks j

module _ (edges : List (List ℕ)) (k : ℕ) (old new : List Bool) (nodes after : List ℕ) where
  -- the nodes that k points to were reached
  module _ (count : length old ≡ length edges) (none : (j : ℕ) → IsMarked old j → ⊥) (at : slice_get edges k ≡ Some nodes) (r : Reached old [] nodes new after) where
    first_in : (j : ℕ) → IsMarked new j → IsIn j nodes
    first_in j m = elim ((r.marked j).0 m) [ inl h ↦ absurd (none j h) | inr here ↦ here ]

    first_waits : (j : ℕ) → IsIn j [] ⊎ (IsIn j nodes × (IsMarked old j → ⊥)) → IsMarked new j
    first_waits j (inl h) = absurd (in_none j h)
    first_waits j (inr h) = (r.marked j).1 (inr h.0)

    pub explored_first : Explored edges k new after
    explored_first = record {
      count = r.count ∙ count;
      sound = λ j m. step j (nodes, at, first_in j m);
      waits = λ j h. first_waits j ((r.pends j).0 h);
      start = λ j e. (r.marked j).1 (inr (edge_into edges k j nodes at e));
      closed = λ i j m e. inl ((r.pends i).1 (inr (first_in i m, none i)));
    }

  -- those that a pending node points to were
  module _ (rest : List ℕ) (i : ℕ) (x : Explored edges k old (rest ++ i ∷ [])) (at : slice_get edges i ≡ Some nodes) (r : Reached old rest nodes new after) where
    kept : (j : ℕ) → IsMarked old j → IsMarked new j
    kept j m = (r.marked j).1 (inl m)

    more_sound : (j : ℕ) → IsMarked old j ⊎ IsIn j nodes → Path (Edge edges) k j
    more_sound j (inl m) = x.sound j m
    more_sound j (inr here) = further i j (x.sound i (x.waits i (in_last rest i))) (nodes, at, here)

    more_waits : (j : ℕ) → IsIn j rest ⊎ (IsIn j nodes × (IsMarked old j → ⊥)) → IsMarked new j
    more_waits j (inl h) = kept j (x.waits j (in_before rest j i h))
    more_waits j (inr h) = (r.marked j).1 (inr h.0)

    gone_on : (a b : ℕ) → Edge edges a b → IsIn a rest ⊎ (a ≡ i) → IsIn a after ⊎ IsMarked new b
    gone_on a b e (inl h) = inl ((r.pends a).1 (inl h))
    gone_on a b e (inr is) = inr ((r.marked b).1 (inr (edge_into edges i b nodes at (subst (λ y. Edge edges y b) is e))))

    closed_old : (a b : ℕ) → IsMarked old a → Edge edges a b → IsIn a after ⊎ IsMarked new b
    closed_old a b m e = elim (x.closed a b m e) [ inl h ↦ gone_on a b e (in_push rest a i h) | inr h ↦ inr (kept b h) ]

    closed_new : (a b : ℕ) → IsIn a nodes → Edge edges a b → IsMarked old a ⊎ (IsMarked old a → ⊥) → IsIn a after ⊎ IsMarked new b
    closed_new a b here e (inl m) = closed_old a b m e
    closed_new a b here e (inr un) = inl ((r.pends a).1 (inr (here, un)))

    more_closed : (a b : ℕ) → IsMarked old a ⊎ IsIn a nodes → Edge edges a b → IsIn a after ⊎ IsMarked new b
    more_closed a b (inl m) e = closed_old a b m e
    more_closed a b (inr here) e = closed_new a b here e (marked_decided old a)

    pub explored_more : Explored edges k new after
    explored_more = record {
      count = r.count ∙ x.count;
      sound = λ j m. more_sound j ((r.marked j).0 m);
      waits = λ j h. more_waits j ((r.pends j).0 h);
      start = λ j e. kept j (x.start j e);
      closed = λ a b m e. more_closed a b ((r.marked a).0 m) e;
    }

-- a pending node is one of the graph's
pub pending_within : (edges : List (List ℕ)) (k : ℕ) (marks : List Bool) (pending rest : List ℕ) (i : ℕ) → Explored edges k marks pending → pending ≡ rest ++ i ∷ [] → i < length edges
pending_within edges k marks pending rest i x is =
    let m : IsMarked marks i = x.waits i (subst (IsIn i) (sym is) (in_last rest i)) in
    let below = slice_get_within marks i true m in
    omega (arith, below, x.count)

-- nothing is pending: the nodes with a mark are those to which a path leads
module _ (edges : List (List ℕ)) (k : ℕ) (marks : List Bool) (x : Explored edges k marks []) where
  leads_to_mark : (j : ℕ) → Path (Edge edges) k j → IsMarked marks j
  leads_to_mark _ (step j e) = x.start j e
  leads_to_mark _ (further i j p e) = elim (x.closed i j (leads_to_mark i p) e) [ inl h ↦ absurd (in_none i h) | inr m ↦ m ]

  pub explored_marks : (j : ℕ) → IsMarked marks j ↔ Path (Edge edges) k j
  explored_marks j = (x.sound j, leads_to_mark j)
