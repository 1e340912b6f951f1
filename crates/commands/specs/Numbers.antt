-- Numbers in words. This project's own.
use Rattle.std.specs.Prelude.{◌≡◌, ℕ, ◌+◌, ◌-◌, ◌*◌, ◌^◌, ◌≤◌, min, List, [], ◌∷◌, length, Bool, true, ◌&&◌, leb, Option, Some, None, if◌then◌else◌}
use Rattle.std.specs.List.{All}
use Rattle.commands.specs.declared.number.Range.{Range}

-- a decimal digit
abbrev pub IsDigit : ℕ → Type 0
IsDigit b = (48 ≤ b) × (b ≤ 57)

-- the number of which these are the further digits
abbrev pub number_from : ℕ → List ℕ → ℕ
number_from n [] = n
number_from n (b ∷ bs) = number_from (10 * n + (b - 48)) bs

-- The word is a number of the range: some decimal digits alone, not too many, of which the first may be zeros.
pub record IsNumberWord (range : Range) (word : List ℕ) (n : ℕ) : Type 0 where
  pub some : 1 ≤ length word
  pub few : length word ≤ range.digits
  pub digits : All IsDigit word
  pub value : n ≡ number_from 0 word
  pub least : range.least ≤ n
  pub most : n ≤ range.most

-- the number of the range that the word is, or that it is none
abbrev pub FindsNumber : Range → List ℕ → Option ℕ → Type 0
FindsNumber range word (Some n) = IsNumberWord range word n
FindsNumber range word None = (n : ℕ) → IsNumberWord range word n → ⊥

-- ---- the same as functions

abbrev pub are_digits : List ℕ → Bool
are_digits [] = true
are_digits (b ∷ bs) = (leb 48 b && leb b 57) && are_digits bs

-- some digits, not too many, of a number from the least to the most
abbrev pub is_number : Range → List ℕ → Bool
is_number range word = ((leb 1 (length word) && leb (length word) range.digits) && are_digits word) && (leb range.least (number_from 0 word) && leb (number_from 0 word) range.most)

-- the number of the range that the word is, if it is one
abbrev pub number_of : Range → List ℕ → Option ℕ
number_of range word = if is_number range word then Some (number_from 0 word) else None

-- ---- parts

abbrev pub FindsDigit : ℕ → Option ℕ → Type 0
FindsDigit b (Some d) = IsDigit b × (d ≡ b - 48)
FindsDigit b None = IsDigit b → ⊥

-- the value of digits, which stops at 2^64 - 1
abbrev pub FindsValue : List ℕ → Option ℕ → Type 0
FindsValue bs (Some n) = All IsDigit bs × (n ≡ min (number_from 0 bs) (2 ^ 64 - 1))
FindsValue bs None = All IsDigit bs → ⊥
