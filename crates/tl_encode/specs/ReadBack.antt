-- What is spelled is read back. This project's own.
use Rattle.std.specs.Prelude.{◌≡◌, ℕ, List, ◌++◌, None}
use Rattle.tl_schema.specs.Types.{Shape}
use Rattle.tl_schema.specs.Schemas.{Declared}
use Rattle.tl_schema.specs.CheckedPrograms.{IsSchema}
use Rattle.tl_schema.specs.Formed.{IsFormed}
use Rattle.tl_types.specs.Values.{ValueView}
use Rattle.tl_types.specs.Spelling.{Spells}
use Rattle.tl_types.specs.Refusal.{Refused}
use Rattle.tl_types.specs.Exactly.{BeginsWith}
use Rattle.tl_types.specs.Fitting.{misfit}
use Rattle.tl_types.specs.declared.cause.Cause.{Cause}
use Rattle.tl_types.specs.declared.value.TheConstants.{MAX_LEVELS}

-- This spelling is the value's only one. Whatever follows it, the bytes begin with it and with no other spelling of any value, and aren't refused.
pub record IsReadBack (schema : Declared) (T : Shape) (v : ValueView) (spelling : List ℕ) : Type 0 where
  pub spells : Spells schema T v spelling
  pub only : (x : List ℕ) → Spells schema T v x → x ≡ spelling
  pub begins : (rest : List ℕ) → BeginsWith schema MAX_LEVELS T (spelling ++ rest) v spelling
  pub one_value : (rest : List ℕ) (w : ValueView) (x : List ℕ) → BeginsWith schema MAX_LEVELS T (spelling ++ rest) w x → (w ≡ v) × (x ≡ spelling)
  pub never_refused : (rest : List ℕ) (at : ℕ) (cause : Cause) → Refused schema MAX_LEVELS T (spelling ++ rest) at cause → ⊥

-- in each schema, each value that fits a formed type has one spelling, which is read back
abbrev pub EachSpellingReadsBack : Type 0
EachSpellingReadsBack =
    (schema : Declared) → IsSchema schema → (T : Shape) (v : ValueView) → IsFormed schema T → misfit schema.decls MAX_LEVELS None T v ≡ None → (spelling : List ℕ) × IsReadBack schema T v spelling
