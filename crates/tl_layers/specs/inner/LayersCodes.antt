-- How the logic stores layers: two schemas, and a type as the result of a schema's only declaration. This project's own.
use Rattle.std.specs.Prelude.{refl}
use Rattle.std.specs.Coded.{Coded, code_by, coded×}
use Rattle.tl_schema.specs.Schemas.{Declared}
use Rattle.tl_schema.specs.inner.SchemaCodes.{declared_code}
use Rattle.tl_plan.specs.inner.PlanCodes.{shape_code}
use Rattle.tl_schema.specs.Types.{Shape}
use Rattle.tl_layers.specs.Compared.{LayersView}

abbrev pub layers_code : Coded LayersView
layers_code =
    code_by ((Declared × Declared) × Shape) (coded× (coded× declared_code declared_code) shape_code) (λ l. ((l.old, l.new), l.of))
    (λ p. record { old = p.0.0; new = p.0.1; of = p.1 }) (λ _. refl)
