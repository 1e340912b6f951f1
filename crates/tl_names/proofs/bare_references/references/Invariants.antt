use Rattle.tl_graph.specs.Paths.{edges_in}
use Rattle.tl_names.proofs.ReferenceLists.{AreFirst}
use Rattle.tl_names.proofs.bare_references.references.Given as goal

abbrev pub invariant-loop-decl : goal.invariant-loop-decl
invariant-loop-decl l = AreFirst l.index l.decl-index (edges_in l.edges.items)
