-- Strings as bytes: the length, the bytes, and zeros up to a multiple of 4.
-- From "Binary data serialization" (core.telegram.org/mtproto/serialize), its bare types `string` and `bytes`.
use Rattle.std.specs.Prelude.{ℕ, ◌+◌, ◌-◌, ◌/◌, ◌%◌, List, [], ◌∷◌, ◌++◌, length, replicate, nat_le, if◌then◌else◌}

-- a length in three bytes, the lowest first
abbrev pub three_bytes : ℕ → List ℕ
three_bytes n = n % 256 ∷ (n / 256) % 256 ∷ n / 65536 ∷ []

-- so many zeros make a multiple of 4
abbrev pub missing : ℕ → ℕ
missing n = (4 - n % 4) % 4

-- the head of a string of this length: one byte up to 253, else 254 and three bytes
abbrev pub text_head : ℕ → List ℕ
text_head n = if nat_le n 253 then n ∷ [] else 254 ∷ three_bytes n

-- a string
abbrev pub text_bytes : List ℕ → List ℕ
text_bytes s = (text_head (length s) ++ s) ++ replicate (missing (length (text_head (length s)) + length s)) 0
