-- Which signed numbers words and double words stand for.
use Rattle.std.proofs.Common.{◌≡◌, ℕ, suc, ◌-◌, ◌^◌, ◌<◌, ℤ, pos, negsuc, sym, arith, true, lt-ltb, le-ltb, inl, inr}
use Rattle.std.specs.Int.{w32, w64, cast_signed}
use Rattle.std.proofs.lemmas.Bool.{cases_lt, ltb-true}
use Rattle.std.proofs.lemmas.Int.{to_z-of_z}
use Rattle.tl_types.specs.Fitting.{is_signed}

pub int_word : (z : ℤ) → is_signed (2 ^ 31) z ≡ true → (k : ℕ) × (k < 2 ^ 32) × (z ≡ cast_signed w32 k)
int_word (pos n) is = let few : n < 2 ^ 31 = ltb-true n (2 ^ 31) is in (n, omega (arith, few), sym (to_z-of_z w32 (pos n) (record { sfits = few })))
int_word (negsuc n) is = let few : n < 2 ^ 31 = ltb-true n (2 ^ 31) is in (2 ^ 32 - suc n, omega (arith, few), sym (to_z-of_z w32 (negsuc n) (record { sfits = few })))

pub long_word : (z : ℤ) → is_signed (2 ^ 63) z ≡ true → (k : ℕ) × (k < 2 ^ 64) × (z ≡ cast_signed w64 k)
long_word (pos n) is = let few : n < 2 ^ 63 = ltb-true n (2 ^ 63) is in (n, omega (arith, few), sym (to_z-of_z w64 (pos n) (record { sfits = few })))
long_word (negsuc n) is = let few : n < 2 ^ 63 = ltb-true n (2 ^ 63) is in (2 ^ 64 - suc n, omega (arith, few), sym (to_z-of_z w64 (negsuc n) (record { sfits = few })))

pub word_int : (k : ℕ) → k < 2 ^ 32 → is_signed (2 ^ 31) (cast_signed w32 k) ≡ true
word_int k few = elim (cases_lt k (2 ^ 31)) [
  | inl below ↦ rw (lt-ltb k (2 ^ 31) below) (lt-ltb k (2 ^ 31) below)
  | inr above ↦ rw (le-ltb k (2 ^ 31) above) (lt-ltb (2 ^ 32 - suc k) (2 ^ 31) (omega (arith, few, above)))
]

pub double_word_long : (k : ℕ) → k < 2 ^ 64 → is_signed (2 ^ 63) (cast_signed w64 k) ≡ true
double_word_long k few = elim (cases_lt k (2 ^ 63)) [
  | inl below ↦ rw (lt-ltb k (2 ^ 63) below) (lt-ltb k (2 ^ 63) below)
  | inr above ↦ rw (le-ltb k (2 ^ 63) above) (lt-ltb (2 ^ 64 - suc k) (2 ^ 63) (omega (arith, few, above)))
]
