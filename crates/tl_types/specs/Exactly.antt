-- Bytes begin with the spelling of a value, or they are refused: one of the two, and in one way. This project's own.
use Rattle.std.specs.Prelude.{◌≡◌, ◌⊎◌, ℕ, ◌≤◌, List, ◌++◌}
use Rattle.tl_numbers.specs.Bytes.{AreBytes}
use Rattle.tl_schema.specs.Types.{Shape}
use Rattle.tl_schema.specs.Schemas.{Declared}
use Rattle.tl_schema.specs.CheckedPrograms.{IsSchema}
use Rattle.tl_schema.specs.Formed.{IsFormed}
use Rattle.tl_types.specs.Values.{ValueView, depth}
use Rattle.tl_types.specs.Spelling.{Spells}
use Rattle.tl_types.specs.Refusal.{Refused}
use Rattle.tl_types.specs.declared.cause.Cause.{Cause}

-- the bytes b begin with x, which spells the value v, of at most n levels
abbrev pub BeginsWith : Declared → ℕ → Shape → List ℕ → ValueView → List ℕ → Type 0
BeginsWith schema n T b v x = (rest : List ℕ) × (b ≡ x ++ rest) × Spells schema T v x × (depth v ≤ n)

pub record ExactlyOne (schema : Declared) (n : ℕ) (T : Shape) (b : List ℕ) : Type 0 where
  pub either : ((v : ValueView) × (x : List ℕ) × BeginsWith schema n T b v x) ⊎ ((at : ℕ) × (cause : Cause) × Refused schema n T b at cause)
  pub never_both : (v : ValueView) (x : List ℕ) (at : ℕ) (cause : Cause) → BeginsWith schema n T b v x → Refused schema n T b at cause → ⊥
  pub one_value : (v w : ValueView) (x y : List ℕ) → BeginsWith schema n T b v x → BeginsWith schema n T b w y → (v ≡ w) × (x ≡ y)
  pub one_fault : (p q : ℕ) (c d : Cause) → Refused schema n T b p c → Refused schema n T b q d → (p ≡ q) × (c ≡ d)

-- in each schema, at each number of levels, for each formed type and all bytes
abbrev pub EachIsSpelledOrRefused : Type 0
EachIsSpelledOrRefused = (schema : Declared) → IsSchema schema → (n : ℕ) (T : Shape) (b : List ℕ) → IsFormed schema T → AreBytes b → ExactlyOne schema n T b
