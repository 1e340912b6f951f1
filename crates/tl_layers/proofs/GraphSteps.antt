-- The lists of a graph's nodes, as they are made.
use Rattle.std.proofs.Common.{◌≡◌, ℕ, ◌+◌, ◌≤◌, List, [], ◌∷◌, ◌++◌, map, take, length, slice_get, Some, Vec, ap, ap₂, sym, ◌∙◌, subst, append-nil}
use Rattle.std.proofs.lemmas.List.{append_assoc, length-map, map_push, take_all}
use Rattle.tl_graph.specs.Paths.{edges_in}
use Rattle.tl_graph.proofs.NodeLists.{take_push}
use Rattle.tl_schema.specs.Seen.{shape, slot}
use Rattle.tl_schema.specs.Schemas.{Slot, Declaration, Declared}
use Rattle.tl_schema.specs.Types.{Shape, shapes_of}
use Rattle.tl_schema.specs.declared.schema.TypeRef.{TypeRef}
use Rattle.tl_schema.specs.declared.schema.SchemaField.{SchemaField}
use Rattle.tl_plan.specs.inner.Walks.{AreHeads, lists_of}
use Rattle.tl_layers.specs.inner.Graphs.{nodes_of, nodes_of_each, nodes_in, type_total, declaration_lists, all_lists}
use Rattle.tl_layers.specs.inner.Edges.{AreEdges}
use Rattle.tl_layers.proofs.EdgeLists.{are_edges}

module _ (n t : ℕ) where
  each_push : (Ts : List Shape) (T : Shape) → nodes_of_each n t (shapes_of (Ts ++ T ∷ [])) ≡ nodes_of_each n t (shapes_of Ts) ++ nodes_of n t T
  each_push [] T = append-nil (nodes_of n t T)
  each_push (U ∷ Ts) T = ap (λ (ks : List ℕ). nodes_of n t U ++ ks) (each_push Ts T) ∙ sym (append_assoc (nodes_of n t U) (nodes_of_each n t (shapes_of Ts)) (nodes_of n t T))

  fields_push : (fs : List Slot) (f : Slot) → nodes_in n t (fs ++ f ∷ []) ≡ nodes_in n t fs ++ nodes_of n t f.of
  fields_push [] f = append-nil (nodes_of n t f.of)
  fields_push (g ∷ fs) f = ap (λ (ks : List ℕ). nodes_of n t g.of ++ ks) (fields_push fs f) ∙ sym (append_assoc (nodes_of n t g.of) (nodes_in n t fs) (nodes_of n t f.of))

  pub types_step : (xs : List TypeRef) (i : ℕ) (x : TypeRef) (first old new : List ℕ) → slice_get xs i ≡ Some x → old ≡ first ++ nodes_of_each n t (shapes_of (map shape (take i xs))) → new ≡ old ++ nodes_of n t (shape x)
      → new ≡ first ++ nodes_of_each n t (shapes_of (map shape (take (i + 1) xs)))
  types_step xs i x first old new at before is =
      is ∙ ap (λ (ks : List ℕ). ks ++ nodes_of n t (shape x)) before ∙ append_assoc first (nodes_of_each n t (shapes_of (map shape (take i xs)))) (nodes_of n t (shape x))
      ∙ ap (λ (ks : List ℕ). first ++ ks)
      (sym (each_push (map shape (take i xs)) (shape x)) ∙ ap (λ (Ts : List Shape). nodes_of_each n t (shapes_of Ts)) (sym (map_push shape (take i xs) x) ∙ ap (map shape) (sym (take_push xs i x at))))

  pub types_all : (xs ys : List TypeRef) (i : ℕ) (first old : List ℕ) → old ≡ first ++ nodes_of_each n t (shapes_of (map shape (take i xs))) → length xs ≤ i → xs ≡ ys → old ≡ first ++ nodes_of_each n t (shapes_of (map shape ys))
  types_all xs ys i first old before past same = before ∙ ap (λ (zs : List TypeRef). first ++ nodes_of_each n t (shapes_of (map shape zs))) (take_all i xs past ∙ same)

  pub fields_step : (xs : List SchemaField) (i : ℕ) (x : SchemaField) (old new : List ℕ) → slice_get xs i ≡ Some x → old ≡ nodes_in n t (map slot (take i xs)) → new ≡ old ++ nodes_of n t (shape x.of) → new ≡ nodes_in n t (map slot (take (i + 1) xs))
  fields_step xs i x old new at before is =
      is ∙ ap (λ (ks : List ℕ). ks ++ nodes_of n t (shape x.of)) before
      ∙ sym (fields_push (map slot (take i xs)) (slot x)) ∙ ap (nodes_in n t) (sym (map_push slot (take i xs) x) ∙ ap (map slot) (sym (take_push xs i x at)))

  pub fields_all : (xs : List SchemaField) (i : ℕ) (old : List ℕ) → old ≡ nodes_in n t (map slot (take i xs)) → length xs ≤ i → old ≡ nodes_in n t (map slot xs)
  fields_all xs i old before past = before ∙ ap (λ (zs : List SchemaField). nodes_in n t (map slot zs)) (take_all i xs past)

  abbrev lists_in : Declaration → List ℕ
  lists_in d = nodes_in n t d.fields

  pub declarations_step : {A : Type 0} (ds : List Declaration) (i : ℕ) (d : Declaration) (old new : List (Vec ℕ A)) (v : Vec ℕ A) → slice_get ds i ≡ Some d → edges_in old ≡ map (λ d. nodes_in n t d.fields) (take i ds) → new ≡ old ++ v ∷ [] → v.items ≡ nodes_in n t d.fields
      → edges_in new ≡ map (λ d. nodes_in n t d.fields) (take (i + 1) ds)
  declarations_step {A = A} ds i d old new v at before is made =
      ap edges_in is ∙ map_push (λ (js : Vec ℕ A). js.items) old v ∙ ap₂ (λ (xs : List (List ℕ)) (x : List ℕ). xs ++ x ∷ []) before made
      ∙ sym (map_push lists_in (take i ds) d) ∙ ap (map lists_in) (sym (take_push ds i d at))

pub declarations_all : (S : Declared) (n t i : ℕ) (lists : List (List ℕ)) → n ≡ length S.decls → t ≡ type_total S → lists ≡ map (λ d. nodes_in n t d.fields) (take i S.decls) → length S.decls ≤ i → lists ≡ declaration_lists S
declarations_all S n t i lists count types before past =
    before ∙ ap (λ (ds : List Declaration). map (λ (d : Declaration). nodes_in n t d.fields) ds) (take_all i S.decls past)
    ∙ ap (λ (m : ℕ). map (λ (d : Declaration). nodes_in m t d.fields) S.decls) count ∙ ap (λ (u : ℕ). map (λ (d : Declaration). nodes_in (length S.decls) u d.fields) S.decls) types

-- ---- lists that are moved

module _ {A : Type 0} where
  pub lists_step : (old new : List (Vec ℕ A)) (v : Vec ℕ A) (rest after : List (Vec ℕ A)) (whole : List (List ℕ)) → new ≡ old ++ v ∷ [] → rest ≡ v ∷ after → edges_in old ++ edges_in rest ≡ whole → edges_in new ++ edges_in after ≡ whole
  lists_step old new v rest after whole is first before =
      ap (λ (xs : List (Vec ℕ A)). edges_in xs ++ edges_in after) is ∙ ap (λ (xs : List (List ℕ)). xs ++ edges_in after) (map_push (λ (js : Vec ℕ A). js.items) old v)
      ∙ append_assoc (edges_in old) (v.items ∷ []) (edges_in after) ∙ ap (λ (xs : List (Vec ℕ A)). edges_in old ++ edges_in xs) (sym first) ∙ before

  pub lists_all : (now rest : List (Vec ℕ A)) (whole : List (List ℕ)) → rest ≡ [] → edges_in now ++ edges_in rest ≡ whole → edges_in now ≡ whole
  lists_all now rest whole none before = sym (append-nil (edges_in now)) ∙ ap (λ (xs : List (Vec ℕ A)). edges_in now ++ edges_in xs) (sym none) ∙ before

  -- all lists, as they came to stand one after the other
  pub edges_made : (S : Declared) (T : Shape) (lists a b c d : List (Vec ℕ A)) (called nodes : Vec ℕ A) → AreHeads S (lists_of lists) called.items → length lists ≡ type_total S
      → edges_in a ≡ declaration_lists S → edges_in b ≡ edges_in a ++ edges_in lists → c ≡ b ++ called ∷ [] → d ≡ c ++ nodes ∷ [] → nodes.items ≡ nodes_of (length S.decls) (type_total S) T → AreEdges S T (edges_in d)
  edges_made S T lists a b c d called nodes heads count at_a at_b at_c at_d root =
      let items : Vec ℕ A → List ℕ = λ js. js.items in
      let last : edges_in d ≡ edges_in c ++ nodes.items ∷ [] = ap edges_in at_d ∙ map_push items c nodes in
      let before : edges_in c ≡ edges_in b ++ called.items ∷ [] = ap edges_in at_c ∙ map_push items b called in
      let is : edges_in d ≡ all_lists S T (edges_in lists) called.items =
      last ∙ ap (λ (xs : List (List ℕ)). xs ++ nodes.items ∷ []) (before ∙ ap (λ (xs : List (List ℕ)). xs ++ called.items ∷ []) (at_b ∙ ap (λ (xs : List (List ℕ)). xs ++ edges_in lists) at_a))
      ∙ ap (λ (ks : List ℕ). ((declaration_lists S ++ edges_in lists) ++ called.items ∷ []) ++ ks ∷ []) root
      ∙ append_assoc (declaration_lists S ++ edges_in lists) (called.items ∷ []) (nodes_of (length S.decls) (type_total S) T ∷ [])
      ∙ append_assoc (declaration_lists S) (edges_in lists) (called.items ∷ nodes_of (length S.decls) (type_total S) T ∷ []) in
      subst (AreEdges S T) (sym is) (are_edges S T (edges_in lists) called.items heads (length-map lists items ∙ count))
