use Rattle.tl_graph.specs.Needs.{needs_in}
use Rattle.tl_names.proofs.BareFields.{NeedsFirst}
use Rattle.tl_names.proofs.empty_constructors.needs_of.Given as goal

abbrev pub invariant-loop-decl : goal.invariant-loop-decl
invariant-loop-decl l = NeedsFirst l.index l.decl-index (needs_in l.needs.items)
