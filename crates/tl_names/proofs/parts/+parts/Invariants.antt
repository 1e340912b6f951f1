use Rattle.std.proofs.Common.{map, take}
use Rattle.tl_program.specs.Trees.{trees_of}
use Rattle.tl_names.specs.MeantViews.{meant_view}
use Rattle.tl_names.specs.Parts.{SomePartOfOne}
use Rattle.tl_names.specs.inner.Resolved.{ForTypes}
use Rattle.tl_names.proofs.parts.+parts.Given as goal

abbrev pub invariant-is_in_one-loop-meant : goal.invariant-is_in_one-loop-meant
invariant-is_in_one-loop-meant g l = ForTypes l.index (map meant_view l.meants) (λ d ts. SomePartOfOne (g.T.TypeTest.holds l.test l.index d) (trees_of (take l.meant-index ts)) → ⊥)
