-- An answer to a call. This project's own.
use Rattle.std.specs.Prelude.{◌≡◌, ℕ, List}
use Rattle.tl_schema.specs.Types.{Shape}
use Rattle.tl_schema.specs.Schemas.{Declared}
use Rattle.tl_types.specs.Values.{ValueView}
use Rattle.tl_types.specs.Spelling.{Spells}
use Rattle.tl_calls.specs.Results.{result_type}

-- the type is what the call is answered in, and by it the bytes spell the value
abbrev pub IsAnswer : Declared → ValueView → List ℕ → Shape → ValueView → Type 0
IsAnswer schema query bytes T v = (T ≡ result_type schema.decls query) × Spells schema T v bytes
