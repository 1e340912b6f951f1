use Rattle.std.proofs.Common.{map, take}
use Rattle.tl_program.specs.Trees.{trees_of}
use Rattle.tl_names.specs.MeantViews.{meant_view}
use Rattle.tl_schema.specs.inner.MarkedSteps.{HasMarkedArg}
use Rattle.tl_names.specs.inner.Resolved.{ForTypes}
use Rattle.tl_schema.proofs.empty_element.has_marked.Given as goal

abbrev pub invariant-loop-meant : goal.invariant-loop-meant
invariant-loop-meant l = ForTypes l.index (map meant_view l.meants) (λ d ts. HasMarkedArg l.index l.marks d (trees_of (take l.meant-index ts)) → ⊥)
