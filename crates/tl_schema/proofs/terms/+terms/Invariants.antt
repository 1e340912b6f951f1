use Rattle.std.proofs.Common.{◌≡◌, map, take}
use Rattle.tl_names.specs.MeantViews.{meant_view}
use Rattle.tl_schema.specs.Seen.{shape}
use Rattle.tl_schema.specs.Meanings.{meant_shape}
use Rattle.tl_schema.proofs.terms.+terms.Given as goal

abbrev pub invariant-type_terms-loop-meant : goal.invariant-type_terms-loop-meant
invariant-type_terms-loop-meant l = map shape l.terms.items ≡ map (meant_shape l.index) (take l.meant-index (map meant_view l.meants))
