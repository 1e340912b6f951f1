-- A value fits exactly where bytes spell it. This project's own.
use Rattle.std.specs.Prelude.{◌≡◌, ℕ, ◌≤◌, List, None}
use Rattle.tl_schema.specs.Types.{Shape}
use Rattle.tl_schema.specs.Schemas.{Declared}
use Rattle.tl_schema.specs.CheckedPrograms.{IsSchema}
use Rattle.tl_schema.specs.Formed.{IsFormed}
use Rattle.tl_types.specs.Values.{ValueView, depth}
use Rattle.tl_types.specs.Spelling.{Spells}
use Rattle.tl_types.specs.Fitting.{misfit}

-- the value has no misfit with n levels left, exactly where some bytes spell it and it has at most n levels
pub record FitsExactly (schema : Declared) (n : ℕ) (T : Shape) (v : ValueView) : Type 0 where
  pub spelled : misfit schema.decls n None T v ≡ None → (b : List ℕ) × Spells schema T v b × (depth v ≤ n)
  pub fits : (b : List ℕ) → Spells schema T v b → depth v ≤ n → misfit schema.decls n None T v ≡ None

-- in each schema, at each number of levels, for each formed type and each value
abbrev pub EachFitsExactly : Type 0
EachFitsExactly = (schema : Declared) → IsSchema schema → (n : ℕ) (T : Shape) (v : ValueView) → IsFormed schema T → FitsExactly schema n T v
