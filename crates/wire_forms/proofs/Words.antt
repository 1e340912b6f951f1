-- Numbers of 32 bits, with a sign and without.
use Rattle.std.proofs.Common.{◌≡◌, ℕ, ◌<◌, ◌^◌, ℤ, Bool, true, false, refl, sym, ap, ◌∙◌, arith}
use Rattle.std.specs.Prelude.{if◌then◌else◌, nat_lt, pos}
use Rattle.std.specs.Int.{w32, cast_signed, cast_unsigned}
use Rattle.std.proofs.lemmas.Int.{of_z-to_z}
use Rattle.std.proofs.lemmas.Bool.Decides.{nat_tests}
use Rattle.tl_types.specs.Values.{int}
use Rattle.wire_forms.specs.Parts.{word_of, as_int, number}
use Rattle.wire_forms.specs.IsOf.{IsInt}

pub clash : false ≡ true → ⊥
clash e = cc

pub by_test : {A : Type 0} (b : Bool) (x y : A) → b ≡ true → (if b then x else y) ≡ x
by_test true x y e = refl
by_test false x y e = absurd (clash e)

pub by_not : {A : Type 0} (b : Bool) (x y : A) → b ≡ false → (if b then x else y) ≡ y
by_not true x y e = absurd (clash (sym e))
by_not false x y e = refl

is_lt : (m n : ℕ) → m < n → nat_lt m n ≡ true
is_lt m n lt = grind (arith, nat_tests)

pub as_int_small : (n : ℕ) → n < 2 ^ 32 → as_int n ≡ cast_signed w32 n
as_int_small n lt = by_test (nat_lt n (2 ^ 32)) (cast_signed w32 n) (pos n) (is_lt n (2 ^ 32) lt)

again_by : (n : ℕ) (b : Bool) → nat_lt n (2 ^ 32) ≡ b → word_of (number n) ≡ n
again_by n true e = ap (cast_unsigned w32) (as_int_small n (grind (arith, nat_tests, e))) ∙ of_z-to_z w32 n (grind (arith, nat_tests, e))
again_by n false e = ap (λ (t : Bool). cast_unsigned w32 (if t then cast_signed w32 n else pos n)) e

-- each number is its int's word
pub again : (n : ℕ) → word_of (number n) ≡ n
again n = again_by n (nat_lt n (2 ^ 32)) refl

-- each int is its word's number
pub whole_again : (z : ℤ) → IsInt z → number (word_of (int z)) ≡ int z
whole_again z (n, lt, e) = ap (λ (y : ℤ). number (word_of (int y))) e ∙ ap number (of_z-to_z w32 n lt) ∙ ap int (as_int_small n lt) ∙ sym (ap int e)

-- a number of 32 bits is an int
pub number_is : (n : ℕ) → n < 2 ^ 32 → IsInt (as_int n)
number_is n lt = (n, lt, as_int_small n lt)
