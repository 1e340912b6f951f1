-- Two schemas, and the first constructors of the types of the first. This project's own.
use Rattle.std.specs.Prelude.{◌≡◌, ℕ, zero, suc, List, [], ◌∷◌, length, get_or, Option, Some, None, unwrap_or, refl}
use Rattle.std.specs.Coded.{Coded, code_by, coded×}
use Rattle.tl_schema.specs.Schemas.{Declared}
use Rattle.tl_schema.specs.inner.SchemaCodes.{declared_code}
use Rattle.tl_layers.specs.Counterparts.{first_constructor}

pub record PairView : Type 0 where
  pub old : Declared
  pub new : Declared

abbrev pub pair_code : Coded PairView
pair_code = code_by (Declared × Declared) (coded× declared_code declared_code) (λ p. (p.old, p.new)) (λ q. record { old = q.0; new = q.1 }) (λ _. refl)

-- of each type, and of what constructs none, the first declaration
abbrev pub AreFirsts : Declared → List (Option ℕ) → Type 0
AreFirsts S firsts = (h : ℕ) → get_or firsts h None ≡ first_constructor S h

-- what is kept of two schemas
pub record IsPair (p : PairView) (count : ℕ) (firsts : List (Option ℕ)) : Type 0 where
  pub count_is : count ≡ length p.new.decls
  pub firsts_are : AreFirsts p.old firsts

-- declaration i is the first of h, if there is none and h is below their number
abbrev pub first_noted : List (Option ℕ) → ℕ → ℕ → List (Option ℕ)
first_noted [] h i = []
first_noted (o ∷ os) zero i = Some (unwrap_or o i) ∷ os
first_noted (o ∷ os) (suc h) i = o ∷ first_noted os h i
