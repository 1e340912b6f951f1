-- How the logic stores a profile: by the codes of its parts. This project's own.
use Rattle.std.specs.Prelude.{ℕ, List, refl}
use Rattle.std.specs.Coded.{Coded, code_by, coded×, coded_ℕ, coded_list}
use Rattle.tl_schema.specs.Schemas.{Declared}
use Rattle.tl_schema.specs.inner.SchemaCodes.{declared_code}
use Rattle.wire_profile.specs.Indexes.{ProfileView}

abbrev pub profile_code : Coded ProfileView
profile_code =
    code_by (Declared × (List ℕ × List ℕ)) (coded× declared_code (coded× (coded_list coded_ℕ) (coded_list coded_ℕ))) (λ p. (p.schema, (p.indexes, p.heads)))
    (λ q. record { schema = q.0; indexes = q.1.0; heads = q.1.1 }) (λ _. refl)
