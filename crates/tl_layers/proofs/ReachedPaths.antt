-- Paths of the graph lead to the declarations that the type reaches.
use Rattle.std.proofs.Common.{◌≡◌, inl, inr, ◌↔◌, ℕ, zero, suc, ◌+◌, ◌-◌, ◌<◌, ◌≤◌, List, [], ◌∷◌, Bool, true, length, take, slice_get, Some, Vec, refl, ap, sym, ◌∙◌, subst, arith}
use Rattle.std.proofs.lemmas.Bool.{cases_order}
use Rattle.std.proofs.lemmas.List.{length-take}
use Rattle.std.proofs.lemmas.Option.{same_Some, slice_get_within}
use Rattle.tl_graph.specs.Needs.{IsMarked}
use Rattle.tl_graph.specs.Paths.{Path, step, further, Edge, IsIn, IsGraph, edges_in}
use Rattle.tl_schema.specs.CheckedPrograms.{IsSchema}
use Rattle.tl_schema.specs.Formed.{IsFormed}
use Rattle.tl_schema.specs.Types.{Shape}
use Rattle.tl_schema.specs.Schemas.{Declaration, Declared}
use Rattle.tl_plan.specs.Entries.{constructors_of, functions_of}
use Rattle.tl_plan.proofs.EntryLists.{these_constructors, these_functions}
use Rattle.tl_layers.specs.Reached.{Names, Reached}
use Rattle.tl_layers.specs.Reached as reached
use Rattle.tl_layers.specs.inner.Graphs.{nodes_of, nodes_in, type_total}
use Rattle.tl_layers.specs.inner.Edges.{AreEdges}
use Rattle.tl_layers.proofs.LiftedValues.{get_some}
use Rattle.tl_layers.proofs.MovedDeclarations.{reached_own}
use Rattle.tl_layers.proofs.NodeNames.{Meant, itself, of_type, of_calls, names_to, names_from, field_in, in_field, nodes_below}

-- what is reached is there
pub reached_within : (S : Declared) → IsSchema S → (T : Shape) (i : ℕ) → IsFormed S T → Reached S T i → i < length S.decls
reached_within S good T i formed r =
    let own = reached_own S good T i formed r in
    let within = slice_get_within S.program i own.0 own.1 in
    let count = good.count in omega (arith, within, count)

module _ (S : Declared) (T : Shape) (edges : List (List ℕ)) (are : AreEdges S T edges) where
  abbrev n : ℕ
  n = length S.decls

  abbrev t : ℕ
  t = type_total S

  abbrev root : ℕ
  root = n + t + 1

  into : (k j : ℕ) (js : List ℕ) → slice_get edges k ≡ Some js → Edge edges k j → IsIn j js
  into k j js at (is, there, here) = subst (IsIn j) (same_Some is js (sym there ∙ at)) here

  -- ---- the kinds of nodes

  data Kind (k : ℕ) : Type 0 where
    declared : (d : Declaration) → slice_get S.decls k ≡ Some d → Kind k
    typed : (h : ℕ) → k ≡ n + h → h < t → Kind k
    called : k ≡ n + t → Kind k
    asked : k ≡ n + t + 1 → Kind k

  past_all : (k : ℕ) → n ≤ k → k < n + t + 2 → Kind k
  past_all k low high = elim (cases_order k (n + t)) [
    | inl e ↦ called e
    | inr (inl less) ↦ typed (k - n) (omega (arith, low)) (omega (arith, low, less))
    | inr (inr more) ↦ asked (omega (arith, more, high))
  ]

  kind_of : (k : ℕ) → k < n + t + 2 → Kind k
  kind_of k within = elim (cases_order k n) [
    | inl e ↦ past_all k (omega (arith, e)) within
    | inr (inl less) ↦ (let x = get_some S.decls k less in declared x.0 x.1)
    | inr (inr more) ↦ past_all k (omega (arith, more)) within
  ]

  edge_kind : (k j : ℕ) → Edge edges k j → Kind k
  edge_kind k j (js, at, here) = let within = slice_get_within edges k js at in let count = are.count in kind_of k (omega (arith, within, count))

  -- ---- a path leads to what is reached alone

  abbrev Sound : ℕ → Type 0
  Sound k = (i : ℕ) → Meant S k i → Reached S T i

  -- an own node stands for its declaration alone
  own_meant : (j i : ℕ) → j < n → Meant S j i → i ≡ j
  own_meant j i below (itself is within) = sym is
  own_meant j i below (of_type h d is m) = absurd (omega (arith, below, is))
  own_meant j i below (of_calls d is f) = absurd (omega (arith, below, is))

  own_sound : (j : ℕ) → j < n → Reached S T j → Sound j
  own_sound j below r i meant = subst (Reached S T) (sym (own_meant j i below meant)) r

  edge_sound : (k j : ℕ) → Edge edges k j → Kind k → Sound k → Sound j
  edge_sound k j e (declared d at) sound i meant =
      let f = in_field S d.fields j (into k j (nodes_in n t d.fields) (are.declaration k d at) e) in
      reached.further k i f.0 d f.1 (sound k (itself refl (slice_get_within S.decls k d at))) at f.2 (names_from S f.1.of j i f.3 meant)
  edge_sound k j e (typed h is below) sound i meant =
      let there = into k j (constructors_of S h) (ap (slice_get edges) is ∙ are.type h below) e in
      let m = (these_constructors S h).only j there in
      own_sound j (slice_get_within S.decls j m.0 (m.1).there) (sound j (of_type h m.0 is m.1)) i meant
  edge_sound k j e (called is) sound i meant =
      let there = into k j (functions_of S) (ap (slice_get edges) is ∙ are.called) e in
      let f = (these_functions S).only j there in
      own_sound j (slice_get_within S.decls j f.0 (f.1).there) (sound j (of_calls f.0 is f.1)) i meant
  edge_sound k j e (asked is) sound i meant =
      reached.named i (names_from S T j i (into k j (nodes_of n t T) (ap (slice_get edges) is ∙ are.root) e) meant)

  root_sound : Sound root
  root_sound i (itself is within) = absurd (omega (arith, is, within))
  root_sound i (of_type h d is m) = absurd (let known = m.known in omega (arith, is, known))
  root_sound i (of_calls d is f) = absurd (omega (arith, is))

  path_sound : (k : ℕ) → Path (Edge edges) root k → Sound k
  path_sound _ (step j e) = edge_sound root j e (edge_kind root j e) root_sound
  path_sound _ (further k j p e) = edge_sound k j e (edge_kind k j e) (path_sound k p)

  -- ---- and to all of it

  abbrev Leads : ℕ → Type 0
  Leads k = Path (Edge edges) root k

  arrive : (k i : ℕ) → Leads k → Meant S k i → Leads i
  arrive k i p (itself is within) = subst Leads is p
  arrive k i p (of_type h d is m) =
      further k i p (constructors_of S h, ap (slice_get edges) is ∙ are.type h m.known, (these_constructors S h).all i (d, m))
  arrive k i p (of_calls d is f) = further k i p (functions_of S, ap (slice_get edges) is ∙ are.called, (these_functions S).all i (d, f))

  module _ (good : IsSchema S) (formed : IsFormed S T) where
    leads : (i : ℕ) → Reached S T i → Leads i
    leads _ (reached.named i is) =
        let s = names_to S T i (reached_within S good T i formed (reached.named i is)) is in
        arrive s.0 i (step s.0 (nodes_of n t T, are.root, s.1)) s.2
    leads _ (reached.further j i k d f before at fat is) =
        let s = names_to S f.of i (reached_within S good T i formed (reached.further j i k d f before at fat is)) is in
        arrive s.0 i (further j s.0 (leads j before) (nodes_in n t d.fields, are.declaration j d at, field_in S d.fields k s.0 f fat s.1)) s.2

    pub path_reached : (i : ℕ) → i < n → Path (Edge edges) root i ↔ Reached S T i
    path_reached i below = (λ p. path_sound i p i (itself refl below), leads i)

  -- ---- it is a graph

  list_within : (k j : ℕ) → Edge edges k j → Kind k → j < n + t + 2
  list_within k j e (declared d at) =
      let f = in_field S d.fields j (into k j (nodes_in n t d.fields) (are.declaration k d at) e) in
      let low = nodes_below S f.1.of j f.3 in omega (arith, low)
  list_within k j e (typed h is below) =
      let m = (these_constructors S h).only j (into k j (constructors_of S h) (ap (slice_get edges) is ∙ are.type h below) e) in
      let low = slice_get_within S.decls j m.0 (m.1).there in omega (arith, low)
  list_within k j e (called is) =
      let f = (these_functions S).only j (into k j (functions_of S) (ap (slice_get edges) is ∙ are.called) e) in
      let low = slice_get_within S.decls j f.0 (f.1).there in omega (arith, low)
  list_within k j e (asked is) = let low = nodes_below S T j (into k j (nodes_of n t T) (ap (slice_get edges) is ∙ are.root) e) in omega (arith, low)

  pub is_graph : IsGraph edges
  is_graph k j e = let within = list_within k j e (edge_kind k j e) in let count = are.count in omega (arith, within, count)

-- ---- marks

pub taken_marks : (marks : List Bool) (n i : ℕ) → i < n → IsMarked (take n marks) i ↔ IsMarked marks i
taken_marks [] zero i below = absurd (omega (arith, below))
taken_marks [] (suc n) i below = (λ m. m, λ m. m)
taken_marks (m ∷ marks) zero i below = absurd (omega (arith, below))
taken_marks (m ∷ marks) (suc n) zero below = (λ m. m, λ m. m)
taken_marks (m ∷ marks) (suc n) (suc i) below = taken_marks marks n i (omega (arith, below))

-- the marks of the declarations are those that are reached
module _ (S : Declared) (good : IsSchema S) (T : Shape) (formed : IsFormed S T) (edges : List (List ℕ)) (are : AreEdges S T edges) (marks : List Bool) (all : (j : ℕ) → IsMarked marks j ↔ Path (Edge edges) (length S.decls + type_total S + 1) j) where
  pub marks_reached : (i : ℕ) → IsMarked (take (length S.decls) marks) i ↔ Reached S T i
  marks_reached i = (to, from)
    where
      below : (m : IsMarked (take (length S.decls) marks) i) → i < length S.decls
      below m = elim (cases_order i (length S.decls)) [
        | inl e ↦ absurd (let w = slice_get_within (take (length S.decls) marks) i true m in let l = length-take (length S.decls) marks in omega (arith, e, w, l))
        | inr (inl less) ↦ less
        | inr (inr more) ↦ absurd (let w = slice_get_within (take (length S.decls) marks) i true m in let l = length-take (length S.decls) marks in omega (arith, more, w, l))
      ]

      to : IsMarked (take (length S.decls) marks) i → Reached S T i
      to m = let low = below m in (path_reached S T edges are good formed i low).0 ((all i).0 ((taken_marks marks (length S.decls) i low).0 m))

      from : Reached S T i → IsMarked (take (length S.decls) marks) i
      from r = let low = reached_within S good T i formed r in (taken_marks marks (length S.decls) i low).1 ((all i).1 ((path_reached S T edges are good formed i low).1 r))

-- as the code has them
pub truncated : {A : Type 0} (S : Declared) → IsSchema S → (T : Shape) → IsFormed S T → (lists seen : List (Vec ℕ A)) → seen ≡ lists → AreEdges S T (edges_in lists) → (n t root m : ℕ) → n ≡ length S.decls → t ≡ type_total S → root ≡ n + t + 1 → m ≡ length S.decls
    → (marks new : List Bool) → ((j : ℕ) → IsMarked marks j ↔ Path (Edge (edges_in seen)) root j) → new ≡ take m marks → (i : ℕ) → IsMarked new i ↔ Reached S T i
truncated {A = A} S good T formed lists seen same are n t root m count types root_is all_of marks new paths is i =
    let at : root ≡ length S.decls + type_total S + 1 = omega (arith, count, types, root_is) in
    let moved : (j : ℕ) → IsMarked marks j ↔ Path (Edge (edges_in lists)) (length S.decls + type_total S + 1) j = λ j.
    subst (λ (r : ℕ). IsMarked marks j ↔ Path (Edge (edges_in lists)) r j) at (subst (λ (es : List (Vec ℕ A)). IsMarked marks j ↔ Path (Edge (edges_in es)) root j) same (paths j)) in
    subst (λ (ms : List Bool). IsMarked ms i ↔ Reached S T i) (sym (is ∙ ap (λ (k : ℕ). take k marks) all_of)) (marks_reached S good T formed (edges_in lists) are marks moved i)
