use Rattle.tl_names.specs.MeantViews.{decl_view}
use Rattle.tl_names.specs.inner.Resolved.{ForDecl}
use Rattle.tl_names.proofs.BareFields.{HoldsFirst}
use Rattle.tl_names.proofs.empty_constructors.bare_fields.Given as goal

abbrev pub invariant-loop-field : goal.invariant-loop-field
invariant-loop-field l = ForDecl l.index (decl_view l.decl) (λ d. HoldsFirst l.index d l.field-index l.nodes.items)
