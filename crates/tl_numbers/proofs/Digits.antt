-- The digits of a text, read one after the other.
use Rattle.std.proofs.Common.{◌≡◌, true, ℕ, zero, suc, ◌^◌, ◌<◌, ◌≤◌, List, length, drop, get_or, sym, ◌∙◌, ap, arith}
use Rattle.std.specs.List.{fold}
use Rattle.std.proofs.lemmas.Bool.Decides.{nat_tests}
use Rattle.std.proofs.lemmas.List.{drop_all}
use Rattle.std.proofs.lemmas.List.Elements.{All-from_get_or}
use Rattle.tl_numbers.specs.HexText.{is_digit, digit_value, with_digit, IsHexText, hex_value}

seven_digits : (k : ℕ) → k < 8 → 16 ^ k ≤ 268435456
seven_digits zero w = omega arith
seven_digits (suc zero) w = omega arith
seven_digits (suc (suc zero)) w = omega arith
seven_digits (suc (suc (suc zero))) w = omega arith
seven_digits (suc (suc (suc (suc zero)))) w = omega arith
seven_digits (suc (suc (suc (suc (suc zero))))) w = omega arith
seven_digits (suc (suc (suc (suc (suc (suc zero)))))) w = omega arith
seven_digits (suc (suc (suc (suc (suc (suc (suc zero))))))) w = omega arith
seven_digits (suc (suc (suc (suc (suc (suc (suc (suc k)))))))) w = absurd (omega (arith, w))

-- one more digit fits after fewer than eight
pub has_room : (text : List ℕ) (k n : ℕ) → k < length text → length text ≤ 8 → n < 16 ^ k → n < 268435456
has_room text k n a b w = omega (arith, w, seven_digits k (omega (arith, a, b)))

pub digit_below : (b d : ℕ) → is_digit b ≡ true → digit_value b ≡ d → d < 16
digit_below b d h e = grind (arith, nat_tests)

-- all digits are read
pub number_is : (text : List ℕ) (k n : ℕ) → 0 < length text → length text ≤ 8 → length text ≤ k → fold with_digit n (drop k text) ≡ hex_value text → ((i : ℕ) → i < k → is_digit (get_or text i 0) ≡ true)
    → IsHexText text × (hex_value text ≡ n)
number_is text k n a b w e h = (
  record { some = a; most = b; digits = All-from_get_or (λ c. is_digit c ≡ true) text 0 (λ i v. h i (omega (arith, v, w))) },
  sym e ∙ ap (fold with_digit n) (drop_all k text w),
)
