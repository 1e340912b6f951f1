-- Numbers in bytes, the least byte first. This project's own.
use Rattle.std.specs.Prelude.{◌≡◌, ℕ, ℤ, ◌<◌, List, length}
use Rattle.std.specs.Int.{w32, w64, to_le_bytes, from_le_bytes, cast_unsigned}
use Rattle.tl_numbers.specs.Bytes.{AreBytes}

-- a number in four bytes
abbrev pub word : ℕ → List ℕ
word n = to_le_bytes w32 n

-- a number in eight bytes
abbrev pub double_word : ℕ → List ℕ
double_word n = to_le_bytes w64 n

-- a number with a sign in four bytes
abbrev pub signed_word : ℤ → List ℕ
signed_word x = word (cast_unsigned w32 x)

-- a number with a sign in eight bytes
abbrev pub signed_double : ℤ → List ℕ
signed_double x = double_word (cast_unsigned w64 x)

-- the number that four bytes spell
abbrev pub word_number : List ℕ → ℕ
word_number bytes = from_le_bytes w32 bytes

-- the number that eight bytes spell
abbrev pub double_number : List ℕ → ℕ
double_number bytes = from_le_bytes w64 bytes

-- so many bytes and numbers below a bound determine each other
pub record Determine (size bound : ℕ) (spell : ℕ → List ℕ) (number : List ℕ → ℕ) : Type 0 where
  pub one_number : (n : ℕ) → n < bound → number (spell n) ≡ n
  pub one_spelling : (bytes : List ℕ) → length bytes ≡ size → AreBytes bytes → spell (number bytes) ≡ bytes
  pub fits : (bytes : List ℕ) → length bytes ≡ size → AreBytes bytes → number bytes < bound
  pub long : (n : ℕ) → length (spell n) ≡ size
  pub bytes : (n : ℕ) → AreBytes (spell n)
