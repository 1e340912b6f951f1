-- The eighth check: numbers.
-- From "TL language" (core.telegram.org/mtproto/TL): a combinator goes by its number. The number of packed values is that of "Optional
-- combinator parameters and packed types" (core.telegram.org/mtproto/TL-optargs).
use Rattle.std.specs.Prelude.{ℕ, ◌<◌, List}
use Rattle.tl_program.specs.Program.{DeclText}
use Rattle.tl_schema.specs.Schemas.{packed_number, vector_number}
use Rattle.tl_schema.specs.Numbers.{IsNumbered}

-- declaration k has a number that is taken: an earlier declaration's, or one with a meaning of its own
pub data SameNumber (ds : List DeclText) (k : ℕ) : Type 0 where
  earlier : (j n : ℕ) → j < k → IsNumbered ds j n → IsNumbered ds k n → SameNumber ds k
  packed : IsNumbered ds k packed_number → SameNumber ds k
  vector : IsNumbered ds k vector_number → SameNumber ds k
