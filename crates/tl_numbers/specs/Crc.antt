-- The CRC32 that zip, gzip and PNG describe: what the division of a text's bits by a polynomial leaves.
-- A polynomial has the coefficients 0 and 1, and is the list of these, `true` for 1, the highest power first.
-- From "TL language" (core.telegram.org/mtproto/TL), its combinator names, in that a number is a CRC32.
use Rattle.std.specs.Prelude.{◌≡◌, ℕ, zero, suc, ◌+◌, ◌/◌, ◌%◌, ◌^◌, ◌<◌, Bool, true, false, not, ◌==◌, if◌then◌else◌, List, [], ◌∷◌, ◌++◌, length, map, replicate}
use Rattle.std.specs.List.{flat_map}

-- the lowest bits of a number, as many as told, the lowest first
unfoldable pub lowest_bits : ℕ → ℕ → List Bool
lowest_bits zero n = []
lowest_bits (suc k) n = (n % 2 == 1) ∷ lowest_bits k (n / 2)

-- the bits of a text: those of its bytes in order
abbrev pub text_bits : List ℕ → List Bool
text_bits text = flat_map (lowest_bits 8) text

-- the sum of two bits: whether they differ
abbrev pub xor : Bool → Bool → Bool
xor true b = not b
xor false b = b

-- the sum of two polynomials, and their difference too: place by place
unfoldable pub xor_bits : List Bool → List Bool → List Bool
xor_bits [] ys = []
xor_bits (x ∷ xs) [] = []
xor_bits (x ∷ xs) (y ∷ ys) = xor x y ∷ xor_bits xs ys

-- so many coefficients, each 0
abbrev pub zeros : ℕ → List Bool
zeros n = replicate n false

-- the divisor: the power 32, and the powers from 31 down whose bits are set in the number
unfoldable pub divisor : List Bool
divisor = true ∷ lowest_bits 32 0xedb88320

-- the product of a polynomial and the divisor
unfoldable pub times : List Bool → List Bool
times [] = zeros 32
times (q ∷ qs) = xor_bits (if q then divisor ++ zeros (length qs) else zeros (33 + length qs)) (false ∷ times qs)

-- what is divided: the bits and 32 zeros, with the first 32 of all these turned over
unfoldable pub dividend : List Bool → List Bool
dividend bits = xor_bits (bits ++ zeros 32) (replicate 32 true ++ zeros (length bits))

-- r is the remainder: a quotient times the divisor, plus r, is the dividend
pub record IsRemainder (bits r : List Bool) : Type 0 where
  pub quotient : List Bool
  pub quotient_length : length quotient ≡ length bits
  pub remainder_length : length r ≡ 32
  pub is_sum : dividend bits ≡ xor_bits (times quotient) (zeros (length quotient) ++ r)

-- the number is the text's CRC32: its bits, each turned over, are the remainder
pub record IsCrc (text : List ℕ) (number : ℕ) : Type 0 where
  pub small : number < 2 ^ 32
  pub remainder : IsRemainder (text_bits text) (map not (lowest_bits 32 number))
