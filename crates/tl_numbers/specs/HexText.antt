-- A number as lower-case hexadecimal text, the highest digit first.
-- From "TL language" (core.telegram.org/mtproto/TL), its combinator names. That fewer than eight digits will do is this project's own.
use Rattle.std.specs.Prelude.{ℕ, ◌+◌, ◌-◌, ◌*◌, ◌<◌, ◌≤◌, List, length, Bool, nat_le, ◌&&◌, ◌||◌, if◌then◌else◌}
use Rattle.std.specs.List.{AllPass, fold}

-- a lower-case digit: `0` to `9` are 48 to 57, `a` to `f` are 97 to 102
abbrev pub is_digit : ℕ → Bool
is_digit b = ((nat_le 48 b) && (nat_le b 57)) || ((nat_le 97 b) && (nat_le b 102))

-- what a digit stands for
abbrev pub digit_value : ℕ → ℕ
digit_value b = if nat_le b 57 then b - 48 else b - 87

-- one to eight lower-case digits
pub record IsHexText (text : List ℕ) : Type 0 where
  pub some : 0 < length text
  pub most : length text ≤ 8
  pub digits : AllPass is_digit text

-- sixteen times what is before, plus the digit
abbrev pub with_digit : ℕ → ℕ → ℕ
with_digit before b = before * 16 + digit_value b

-- the number of these digits
abbrev pub hex_value : List ℕ → ℕ
hex_value text = fold with_digit 0 text
