-- The text of a number's bytes.
use Rattle.std.proofs.Common.{◌≡◌, ℕ, zero, suc, ◌+◌, ◌*◌, ◌/◌, ◌%◌, ◌^◌, ◌<◌, List, [], ◌∷◌, slice_index, Bool, true, refl, ◌∙◌, ap, subst, inl, inr, arith}
use Rattle.std.specs.Prelude.{◌==◌, ◌&&◌}
use Rattle.std.specs.Int.{w32, to_be_bytes}
use Rattle.std.specs.List.{AllPass, fold}
use Rattle.std.proofs.lemmas.Bool.{and_parts, cases_lt, eqb-true}
use Rattle.std.proofs.lemmas.List.Elements.{All-nil, All-cons}
use Rattle.hex.specs.Hex.{lower_digits, encode_with, encode_lower, IsBytes}
use Rattle.hex.proofs.HexLemmas.{length-encode_with}
use Rattle.tl_numbers.specs.HexText.{is_digit, digit_value, with_digit, IsHexText, hex_value}

-- ---- the sixteen digits

-- the digit at this place is a digit, and stands for its place
abbrev is_good : ℕ → Bool
is_good d = is_digit (slice_index lower_digits d) && (digit_value (slice_index lower_digits d) == d)

abbrev are_good : ℕ → Bool
are_good zero = true
are_good (suc n) = is_good n && are_good n

good_at : (n d : ℕ) → are_good n ≡ true → d < n → is_good d ≡ true
good_at zero d h w = absurd (omega (arith, w))
good_at (suc n) d h w =
    let parts = and_parts (is_good n) (are_good n) h in
    elim (cases_lt d n) [ inl a ↦ good_at n d parts.1 a | inr b ↦ let e : n ≡ d = omega (arith, w, b) in subst (λ k. is_good k ≡ true) e parts.0 ]

digit_is : (d : ℕ) → d < 16 → (is_digit (slice_index lower_digits d) ≡ true) × (digit_value (slice_index lower_digits d) ≡ d)
digit_is d w =
    let parts = and_parts (is_digit (slice_index lower_digits d)) (digit_value (slice_index lower_digits d) == d) (good_at 16 d refl w) in
    (parts.0, eqb-true (digit_value (slice_index lower_digits d)) d parts.1)

-- ---- bytes

high : (b : ℕ) → b < 256 → b / 16 < 16
high b w = omega (arith, w)

low : (b : ℕ) → b % 16 < 16
low b = omega arith

all_digits : (xs : List ℕ) → IsBytes xs → AllPass is_digit (encode_with lower_digits xs)
unfolding encode_with
all_digits [] h = All-nil (λ b. is_digit b ≡ true)
all_digits (b ∷ rest) h =
    All-cons (λ c. is_digit c ≡ true) (slice_index lower_digits (b / 16)) (slice_index lower_digits (b % 16) ∷ encode_with lower_digits rest) (digit_is (b / 16) (high b (h 0))).0
    (All-cons (λ c. is_digit c ≡ true) (slice_index lower_digits (b % 16)) (encode_with lower_digits rest) (digit_is (b % 16) (low b)).0 (all_digits rest (λ i. h (suc i))))

abbrev with_byte : ℕ → ℕ → ℕ
with_byte before b = before * 256 + b

two_digits : (before b x y : ℕ) → x ≡ b / 16 → y ≡ b % 16 → (before * 16 + x) * 16 + y ≡ before * 256 + b
two_digits before b x y e f = omega (arith, e, f)

-- the value of the digits is that of the bytes
bytes_value : (before : ℕ) (xs : List ℕ) → IsBytes xs → fold with_digit before (encode_with lower_digits xs) ≡ fold with_byte before xs
unfolding encode_with
bytes_value before [] h = refl
bytes_value before (b ∷ rest) h =
    ap (λ (n : ℕ). fold with_digit n (encode_with lower_digits rest)) (two_digits before b _ _ (digit_is (b / 16) (high b (h 0))).1 (digit_is (b % 16) (low b)).1)
    ∙ bytes_value (with_byte before b) rest (λ i. h (suc i))

-- ---- a number's four bytes

bytes_are : (n : ℕ) → IsBytes (to_be_bytes w32 n)
bytes_are n zero = omega arith
bytes_are n (suc zero) = omega arith
bytes_are n (suc (suc zero)) = omega arith
bytes_are n (suc (suc (suc zero))) = omega arith
bytes_are n (suc (suc (suc (suc i)))) = omega arith

four_bytes : (n : ℕ) → n < 2 ^ 32 → fold with_byte 0 (to_be_bytes w32 n) ≡ n
four_bytes n w = omega (arith, w)

pub printed_text : (n : ℕ) → n < 2 ^ 32 → IsHexText (encode_lower (to_be_bytes w32 n))
printed_text n w =
    let e = length-encode_with lower_digits (to_be_bytes w32 n) in
    record { some = omega (arith, e); most = omega (arith, e); digits = all_digits (to_be_bytes w32 n) (bytes_are n) }

pub printed_value : (n : ℕ) → n < 2 ^ 32 → hex_value (encode_lower (to_be_bytes w32 n)) ≡ n
printed_value n w = bytes_value 0 (to_be_bytes w32 n) (bytes_are n) ∙ four_bytes n w
