use Rattle.std.proofs.Common.{[], map}
use Rattle.tl_names.specs.MeantViews.{field_view}
use Rattle.tl_names.specs.inner.BareSteps.{Adds}
use Rattle.tl_names.specs.inner.Resolved.{ForFields}
use Rattle.tl_names.proofs.AddingParts.{InFront}
use Rattle.tl_names.proofs.bare_references.referred_by.Given as goal

abbrev pub invariant-loop-field : goal.invariant-loop-field
invariant-loop-field l = ForFields l.index (map field_view l.decl.fields.items) (λ d fs. Adds l.index d (InFront fs l.field-index) [] l.nodes.items)
