use Rattle.std.proofs.Common.{◌≡◌, ◌++◌}
use Rattle.tl_graph.specs.Paths.{edges_in}
use Rattle.tl_layers.proofs.naming.add_lists.Given as goal

abbrev pub invariant-loop-list : goal.invariant-loop-list
invariant-loop-list l = edges_in l.edges.items ++ edges_in l.list-iterator.rest.items ≡ edges_in l.fn.edges.items ++ edges_in l.fn.lists.items
