use Rattle.std.proofs.Common.{◌≡◌, ℕ, ◌<◌, map, slice_get, Some}
use Rattle.tl_program.specs.Program.{FieldText}
use Rattle.tl_names.specs.MeantViews.{field_view}
use Rattle.tl_names.specs.Parts.{SomeHeld}
use Rattle.tl_names.specs.inner.Resolved.{ForFields}
use Rattle.tl_names.proofs.parts.is_in_fields.Given as goal

abbrev pub invariant-loop-field : goal.invariant-loop-field
invariant-loop-field g l = ForFields l.index (map field_view l.fields) (λ d fs. (k : ℕ) → k < l.field-index → (f : FieldText) → slice_get fs k ≡ Some f → SomeHeld (g.T.TypeTest.holds l.test l.index d) f.kind → ⊥)
