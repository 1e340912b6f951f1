use Rattle.std.proofs.Common.{◌≡◌, take, map}
use Rattle.tl_graph.specs.Paths.{edges_in}
use Rattle.tl_layers.specs.inner.Graphs.{nodes_in}
use Rattle.tl_layers.proofs.naming.declaration_lists.Given as goal

abbrev pub invariant-loop-i : goal.invariant-loop-i
invariant-loop-i l = edges_in l.edges.items ≡ map (λ d. nodes_in l.count l.types d.fields) (take l.i l.schema.decls)
