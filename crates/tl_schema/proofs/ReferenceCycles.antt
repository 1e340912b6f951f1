-- The cycles of bare references are those of the graph that was made of them.
use Rattle.std.proofs.Common.{ℕ, ◌<◌, List, length, Option, arith}
use Rattle.std.proofs.lemmas.Option.{slice_get_within}
use Rattle.tl_program.specs.Trees.{Tree}
use Rattle.tl_program.specs.Program.{DeclText}
use Rattle.tl_graph.specs.Firsts.{First}
use Rattle.tl_graph.specs.Paths.{Edge, IsGraph, IsOnCycle}
use Rattle.tl_graph.proofs.GraphPaths.{along}
use Rattle.tl_names.specs.BareReferences.{IsBareOf, by_name, by_type, PointsTo}
use Rattle.tl_schema.specs.BareCycle.{BareCycle}
use Rattle.tl_names.specs.inner.BareSteps.{AreReferences}
use Rattle.tl_names.proofs.Indexes.{first_same}

-- a constructor that is referred to stands in the list
bare_within : (ds : List DeclText) (d : DeclText) (t : Tree) (j : ℕ) → IsBareOf ds d t j → j < length ds
bare_within ds d t j (by_name name args is free own lower first) = slice_get_within ds j first.0.0 first.0.1.there
bare_within ds d t j (by_type type args c is free own upper only) = slice_get_within ds j c only.one.there

module _ (ds : List DeclText) (edges : List (List ℕ)) (r : AreReferences ds edges) where
  pub reference_graph : IsGraph edges
  reference_graph k j e =
      let p = (r.same k j).1 e in
      let below = bare_within ds p.d p.t j p.bare in
      omega (arith, below, r.count)

  pub first_reference_cycle : (o : Option ℕ) → First (IsOnCycle (Edge edges)) o → First (BareCycle ds) o
  first_reference_cycle = first_same (IsOnCycle (Edge edges)) (BareCycle ds)
      (λ k. along (Edge edges) (PointsTo ds) (λ i j. (r.same i j).1) k k)
      (λ k. along (PointsTo ds) (Edge edges) (λ i j. (r.same i j).0) k k)
