-- Lengths of spellings. This project's own.
use Rattle.std.specs.Prelude.{◌≡◌, ℕ, ◌-◌, ◌^◌, List, length, min, None}
use Rattle.tl_schema.specs.Types.{Shape}
use Rattle.tl_plan.specs.Plans.{PlanView}
use Rattle.tl_plan.specs.PlanLaws.{IsInstance}
use Rattle.tl_types.specs.Values.{ValueView}
use Rattle.tl_types.specs.Fitting.{misfit}
use Rattle.tl_types.specs.Spelling.{Spells}
use Rattle.tl_types.specs.declared.value.TheConstants.{MAX_LEVELS}

-- the value fits the type of this instance
abbrev pub FitsInstance : PlanView → ℕ → ValueView → Type 0
FitsInstance p k v = (T : Shape) → IsInstance p k T → misfit p.schema.decls MAX_LEVELS None T v ≡ None

-- the number of bytes of the value's spelling, whichever is named, up to 2^64 - 1
abbrev pub IsSpelledLength : PlanView → ℕ → ValueView → ℕ → Type 0
IsSpelledLength p k v count = (T : Shape) (spelling : List ℕ) → IsInstance p k T → Spells p.schema T v spelling → count ≡ min (length spelling) (2 ^ 64 - 1)
