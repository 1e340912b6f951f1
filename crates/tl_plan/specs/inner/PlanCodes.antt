-- How the logic stores a plan: by the codes of its parts, a type as the result of a schema's only declaration. This project's own.
use Rattle.std.specs.Prelude.{ℕ, List, [], ◌∷◌, Option, false, refl}
use Rattle.std.specs.Coded.{Coded, code_by, coded×, coded_ℕ, coded_list, coded_option}
use Rattle.tl_schema.specs.Types.{Shape, int}
use Rattle.tl_schema.specs.Schemas.{Declaration, Declared}
use Rattle.tl_schema.specs.inner.SchemaCodes.{declared_code}
use Rattle.tl_plan.specs.Plans.{InstanceView, MemberView, PlanView}

abbrev shape_in : List Declaration → Shape
shape_in [] = int
shape_in (d ∷ ds) = d.result

abbrev pub shape_code : Coded Shape
shape_code =
    code_by Declared declared_code
    (λ T. record { program = []; decls = record { name = []; number = 0; vars = 0; fields = []; function = false; head = 0; result = T } ∷ [] })
    (λ s. shape_in s.decls) (λ _. refl)

abbrev member_code : Coded MemberView
member_code =
    code_by (ℕ × List ℕ) (coded× coded_ℕ (coded_list coded_ℕ)) (λ m. (m.entry, m.fields)) (λ p. record { entry = p.0; fields = p.1 }) (λ _. refl)

abbrev instance_code : Coded InstanceView
instance_code =
    code_by ((Shape × Option ℕ) × List MemberView) (coded× (coded× shape_code (coded_option coded_ℕ)) (coded_list member_code))
    (λ x. ((x.of, x.item), x.members)) (λ p. record { of = p.0.0; item = p.0.1; members = p.1 }) (λ _. refl)

abbrev pub plan_code : Coded PlanView
plan_code =
    code_by ((Declared × ℕ) × List InstanceView) (coded× (coded× declared_code coded_ℕ) (coded_list instance_code))
    (λ p. ((p.schema, p.roots), p.instances)) (λ q. record { schema = q.0.0; roots = q.0.1; instances = q.1 }) (λ _. refl)
