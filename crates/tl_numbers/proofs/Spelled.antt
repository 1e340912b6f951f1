-- Numbers and their bytes determine each other.
use Rattle.std.proofs.Common.{ℕ, zero, suc, ◌<◌, ◌^◌, List, refl, arith}
use Rattle.std.specs.Int.{w32, w64, from_le_bytes}
use Rattle.std.proofs.lemmas.Nat.{from_le_bytes-to_le_bytes_4, from_le_bytes-to_le_bytes_8, le_bytes_4, le_bytes_8}
use Rattle.tl_numbers.specs.Bytes.{AreBytes}
use Rattle.tl_numbers.specs.Numbers.{word, double_word, word_number, double_number, Determine}

pub word_fits : (bs : List ℕ) → AreBytes bs → from_le_bytes w32 bs < 2 ^ 32
word_fits bs bytes = omega (arith, bytes 0, bytes 1, bytes 2, bytes 3)

pub double_fits : (bs : List ℕ) → AreBytes bs → from_le_bytes w64 bs < 2 ^ 64
double_fits bs bytes = omega (arith, bytes 0, bytes 1, bytes 2, bytes 3, bytes 4, bytes 5, bytes 6, bytes 7)

word_bytes : (n : ℕ) → AreBytes (word n)
word_bytes n zero = omega arith
word_bytes n (suc zero) = omega arith
word_bytes n (suc (suc zero)) = omega arith
word_bytes n (suc (suc (suc zero))) = omega arith
word_bytes n (suc (suc (suc (suc k)))) = omega arith

double_bytes : (n : ℕ) → AreBytes (double_word n)
double_bytes n zero = omega arith
double_bytes n (suc zero) = omega arith
double_bytes n (suc (suc zero)) = omega arith
double_bytes n (suc (suc (suc zero))) = omega arith
double_bytes n (suc (suc (suc (suc zero)))) = omega arith
double_bytes n (suc (suc (suc (suc (suc zero))))) = omega arith
double_bytes n (suc (suc (suc (suc (suc (suc zero)))))) = omega arith
double_bytes n (suc (suc (suc (suc (suc (suc (suc zero))))))) = omega arith
double_bytes n (suc (suc (suc (suc (suc (suc (suc (suc k)))))))) = omega arith

pub words : Determine 4 (2 ^ 32) word word_number
words = record {
  one_number = from_le_bytes-to_le_bytes_4;
  one_spelling = λ bs len bytes. le_bytes_4 bs (word_number bs) len bytes refl;
  fits = λ bs len bytes. word_fits bs bytes;
  long = λ n. refl;
  bytes = word_bytes;
}

pub double_words : Determine 8 (2 ^ 64) double_word double_number
double_words = record {
  one_number = from_le_bytes-to_le_bytes_8;
  one_spelling = λ bs len bytes. le_bytes_8 bs (double_number bs) len bytes refl;
  fits = λ bs len bytes. double_fits bs bytes;
  long = λ n. refl;
  bytes = double_bytes;
}
