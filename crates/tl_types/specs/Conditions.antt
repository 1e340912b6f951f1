-- Which fields of a record are there.
-- From "TL language" and "Binary data serialization" (core.telegram.org/mtproto/TL, /mtproto/serialize): a field `F.N?t` is there where bit N of F is set.
use Rattle.std.specs.Prelude.{ℕ, ◌/◌, ◌%◌, ◌^◌, List, get_or, Bool, true, Option, Some, None, ◌==◌}
use Rattle.tl_types.specs.Values.{ValueView, nat, absent}

-- bit b of n is set
abbrev pub is_bit : ℕ → ℕ → Bool
is_bit n b = (n / 2 ^ b) % 2 == 1

-- the bits of a `#` field
abbrev pub bits_of : ValueView → ℕ
bits_of (nat n) = n
bits_of v = 0

-- A field with this condition is there, after fields with these values: it has no condition, or its bit is set.
abbrev pub stands_by : Option (ℕ × ℕ) → List ValueView → Bool
stands_by None before = true
stands_by (Some c) before = is_bit (bits_of (get_or before c.0 absent)) c.1
