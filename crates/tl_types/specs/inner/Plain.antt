-- Values without parts that fit where they are in range. This project's own.
use Rattle.std.specs.Prelude.{ℕ, ℤ, List}
use Rattle.tl_schema.specs.Types.{Shape}
use Rattle.tl_schema.specs.Types as type
use Rattle.tl_types.specs.Values.{ValueView, int, long, nat, text}

-- a number or a string, of its type
pub data IsPlain : Shape → ValueView → Type 0 where
  of_int : (z : ℤ) → IsPlain type.int (int z)
  of_long : (z : ℤ) → IsPlain type.long (long z)
  of_nat : (n : ℕ) → IsPlain type.nat (nat n)
  of_str : (s : List ℕ) → IsPlain type.str (text s)
  of_raw : (s : List ℕ) → IsPlain type.raw (text s)
