-- A value has one spelling.
use Rattle.std.proofs.Common.{◌≡◌, ℕ, List, sym, ◌∙◌}
use Rattle.tl_schema.specs.Types.{Shape}
use Rattle.tl_schema.specs.Schemas.{Declared}
use Rattle.tl_types.specs.Values.{ValueView}
use Rattle.tl_types.specs.Spelling.{Spells}
use Rattle.tl_encode.proofs.Spelled.{spelling_is}

pub one_spelling : (schema : Declared) (v : ValueView) (T : Shape) (x y : List ℕ) → Spells schema T v x → Spells schema T v y → x ≡ y
one_spelling schema v T x y s r = spelling_is schema v T x s ∙ sym (spelling_is schema v T y r)
