-- Numbers of declarations.
-- From "TL language" (core.telegram.org/mtproto/TL), its combinator names: a number that is not written is the CRC32 of the description.
-- What the description is, is this project's own, and stands in the grammar.
use Rattle.std.specs.Prelude.{◌≡◌, ℕ, List, Option, Some, None, false}
use Rattle.tl_numbers.specs.Crc.{IsCrc}
use Rattle.tl_program.specs.Program.{DeclText}
use Rattle.tl_names.specs.Writing.{At}

-- the written number, else the text's CRC32
abbrev pub IsWrittenOrCrc : Option ℕ → List ℕ → ℕ → Type 0
IsWrittenOrCrc (Some written) text n = n ≡ written
IsWrittenOrCrc None text n = IsCrc text n

abbrev pub IsNumberOf : DeclText → ℕ → Type 0
IsNumberOf d n = IsWrittenOrCrc d.number d.text n

-- declaration k has this number; the line of a built-in type has none that counts
pub record IsNumbered (ds : List DeclText) (k n : ℕ) : Type 0 where
  pub d : DeclText
  pub here : At ds k d
  pub own : d.builtin ≡ false
  pub number : IsNumberOf d n
