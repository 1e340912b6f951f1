-- Letters and digits, and what a name begins with.
-- From "Formal description of TL" (core.telegram.org/mtproto/TL-formal), its character classes.
use Rattle.std.specs.Prelude.{ℕ, List, [], ◌∷◌, Bool, false, ◌&&◌, ◌||◌, nat_le}

-- there is a first byte, and it passes the test
abbrev pub first_is : (ℕ → Bool) → List ℕ → Bool
first_is test [] = false
first_is test (b ∷ bs) = test b

-- a letter of lower case
abbrev pub is_lower : ℕ → Bool
is_lower b = (nat_le 97 b) && (nat_le b 122)

-- a letter of upper case
abbrev pub is_upper : ℕ → Bool
is_upper b = (nat_le 65 b) && (nat_le b 90)

-- a letter
abbrev pub is_letter : ℕ → Bool
is_letter b = (is_lower b) || (is_upper b)

-- a decimal digit
abbrev pub is_digit : ℕ → Bool
is_digit b = (nat_le 48 b) && (nat_le b 57)
