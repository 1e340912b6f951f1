use Rattle.std.proofs.Common.{map, take}
use Rattle.tl_program.specs.Trees.{trees_of}
use Rattle.tl_names.specs.MeantViews.{meant_view}
use Rattle.tl_names.specs.Parts.{IsPartOfOne}
use Rattle.tl_names.specs.inner.BareSteps.{Adds}
use Rattle.tl_names.specs.inner.Resolved.{ForTypes}
use Rattle.tl_names.proofs.bare_references.+references.Given as goal

abbrev pub invariant-add_parts_of_each-loop-meant : goal.invariant-add_parts_of_each-loop-meant
invariant-add_parts_of_each-loop-meant l =
    ForTypes l.index (map meant_view l.meants) (λ d ts. Adds l.index d (λ u. IsPartOfOne u (trees_of (take l.meant-index ts))) l.fn.nodes.items l.nodes.items)
