-- The lists of all nodes, one after the other, are the edges of the graph.
use Rattle.std.proofs.Common.{◌≡◌, ℕ, ◌+◌, ◌<◌, List, [], ◌∷◌, ◌++◌, length, slice_get, Some, ap, sym, ◌∙◌, arith, length-append}
use Rattle.std.proofs.lemmas.List.{length-map}
use Rattle.std.proofs.lemmas.Option.{get_or_from_slice_get}
use Rattle.tl_schema.specs.Types.{Shape}
use Rattle.tl_schema.specs.Schemas.{Declaration, Declared}
use Rattle.tl_plan.specs.Entries.{constructors_of, functions_of}
use Rattle.tl_plan.specs.inner.Walks.{AreHeads}
use Rattle.tl_layers.specs.inner.Graphs.{nodes_in, nodes_of, type_total, declaration_lists, all_lists}
use Rattle.tl_layers.specs.inner.Edges.{AreEdges}
use Rattle.tl_layers.proofs.LiftedValues.{get_later, get_mapped, get_some}
use Rattle.tl_layers.proofs.NodeLists.{get_after}

module _ (S : Declared) (T : Shape) (lists : List (List ℕ)) (called : List ℕ) (heads : AreHeads S lists called) (count : length lists ≡ type_total S) where
  abbrev lists_of_fields : Declaration → List ℕ
  lists_of_fields d = nodes_in (length S.decls) (type_total S) d.fields

  abbrev firsts : List (List ℕ)
  firsts = declaration_lists S

  abbrev last : List (List ℕ)
  last = called ∷ nodes_of (length S.decls) (type_total S) T ∷ []

  long : length firsts ≡ length S.decls
  long = length-map S.decls lists_of_fields

  -- past the declarations
  after : (h : ℕ) → slice_get (all_lists S T lists called) (length S.decls + h) ≡ slice_get (lists ++ last) h
  after h = ap (λ (l : ℕ). slice_get (all_lists S T lists called) (l + h)) (sym long) ∙ get_after firsts (lists ++ last) h

  -- past the types
  later : (h : ℕ) → slice_get (lists ++ last) (type_total S + h) ≡ slice_get last h
  later h = ap (λ (l : ℕ). slice_get (lists ++ last) (l + h)) (sym count) ∙ get_after lists last h

  type_at : (h : ℕ) → h < type_total S → slice_get (all_lists S T lists called) (length S.decls + h) ≡ Some (constructors_of S h)
  type_at h below =
      let x = get_some lists h (omega (arith, below, count)) in
      after h ∙ get_later lists last h x.0 x.1 ∙ ap Some (sym (get_or_from_slice_get lists h x.0 [] x.1) ∙ heads.constructors h)

  called_at : slice_get (all_lists S T lists called) (length S.decls + type_total S) ≡ Some (functions_of S)
  called_at =
      let none : type_total S + 0 ≡ type_total S = omega arith in
      after (type_total S) ∙ ap (slice_get (lists ++ last)) (sym none) ∙ later 0 ∙ ap Some heads.functions

  root_at : slice_get (all_lists S T lists called) (length S.decls + type_total S + 1) ≡ Some (nodes_of (length S.decls) (type_total S) T)
  root_at =
      let grouped : (length S.decls + type_total S) + 1 ≡ length S.decls + (type_total S + 1) = omega arith in
      ap (slice_get (all_lists S T lists called)) grouped ∙ after (type_total S + 1) ∙ later 1

  counted : length (all_lists S T lists called) ≡ length S.decls + type_total S + 2
  counted = let a = length-append firsts (lists ++ last) in let b = length-append lists last in omega (arith, a, b, long, count)

  pub are_edges : AreEdges S T (all_lists S T lists called)
  are_edges = record {
    count = counted;
    declaration = λ i d at. get_later firsts (lists ++ last) i (lists_of_fields d) (get_mapped lists_of_fields S.decls i d at);
    type = type_at;
    called = called_at;
    root = root_at;
  }
