-- Items of a given number of bytes, and numbers: how they are read, and which bytes begin with one.
use Rattle.std.proofs.Common.{◌≡◌, ℕ, ◌+◌, ◌^◌, ◌<◌, ◌≤◌, List, ◌++◌, length, take, drop, get_or, Ok, Err, refl, ap, sym, ◌∙◌, arith, ltb, lt-ltb, le-ltb, true, false, inl, inr, take-append-drop}
use Rattle.std.specs.Int.{w32, w64, from_le_bytes}
use Rattle.std.proofs.lemmas.List.{take_at, drop_at, length-append, length-take-le, get_or-take, get_or-append-add, get_or_past}
use Rattle.std.proofs.lemmas.Nat.{from_le_bytes-to_le_bytes_4, from_le_bytes-to_le_bytes_8, le_bytes_4, le_bytes_8}
use Rattle.std.proofs.lemmas.Bool.{cases_lt}
use Rattle.tl_numbers.specs.Bytes.{AreBytes}
use Rattle.tl_numbers.specs.Numbers.{word, double_word}
use Rattle.tl_types.specs.Offsets.{moved}
use Rattle.tl_types.specs.inner.Reading.{spot, Fault, exact_at, word_at, double_at}
use Rattle.tl_types.specs.declared.cause.Cause.{Cause}
use Rattle.tl_types.specs.declared.cause.Cause.TheVariants.{Truncated}
use Rattle.tl_numbers.proofs.Spelled.{word_fits, double_fits}

pub moved_moved : (p m n k : ℕ) → k ≡ m + n → moved (moved p m) n ≡ moved p k
moved_moved p m n k e = omega (arith, e)

pub stays : (p : ℕ) → p < 2 ^ 64 → p ≡ moved p 0
stays p lt = omega arith

pub fault_is : (p at : ℕ) (c d : Cause) → p < 2 ^ 64 → at ≡ 0 → d ≡ c → ◌≡◌ {A = Fault} (p, c) (moved p at, d)
fault_is p at c d lt here same = ap {B = Fault} (λ (k : ℕ). (k, c)) (stays p lt ∙ ap (moved p) (sym here)) ∙ ap {B = Fault} (λ (x : Cause). (moved p at, x)) (sym same)

-- ---- items

pub exact_again : (place p : ℕ) (xs rest : List ℕ) (n : ℕ) → length xs ≡ n → exact_at place n (spot p (xs ++ rest)) ≡ Ok (xs, spot (moved p n) rest)
unfolding exact_at
exact_again place p xs rest n len =
    let long : ltb (length (xs ++ rest)) n ≡ false = le-ltb _ _ (omega (arith, length-append xs rest)) in
    rw (long, take_at xs rest n len, drop_at xs rest n len) refl

pub exact_short : (place p n : ℕ) (b : List ℕ) → length b < n → exact_at place n (spot p b) ≡ Err (place, Truncated)
unfolding exact_at
exact_short place p n b lt = let short : ltb (length b) n ≡ true = lt-ltb _ _ lt in rw short refl

-- ---- numbers

word_general : (xs rest : List ℕ) (p : ℕ) → length xs ≡ 4 → word_at (spot p (xs ++ rest)) ≡ Ok (from_le_bytes w32 xs, spot (moved p 4) rest)
unfolding word_at
word_general xs rest p len = rw (exact_again p p xs rest 4 len) refl

pub word_again : (n p : ℕ) (rest : List ℕ) → n < 2 ^ 32 → word_at (spot p (word n ++ rest)) ≡ Ok (n, spot (moved p 4) rest)
word_again n p rest lt = word_general (word n) rest p refl ∙ ap (λ (k : ℕ). Ok (k, spot (moved p 4) rest)) (from_le_bytes-to_le_bytes_4 n lt)

pub word_short : (p : ℕ) (b : List ℕ) → length b < 4 → word_at (spot p b) ≡ Err (p, Truncated)
unfolding word_at
word_short p b lt = rw (exact_short p p 4 b lt) refl

double_general : (xs rest : List ℕ) (p : ℕ) → length xs ≡ 8 → double_at (spot p (xs ++ rest)) ≡ Ok (from_le_bytes w64 xs, spot (moved p 8) rest)
unfolding double_at
double_general xs rest p len = rw (exact_again p p xs rest 8 len) refl

pub double_again : (n p : ℕ) (rest : List ℕ) → n < 2 ^ 64 → double_at (spot p (double_word n ++ rest)) ≡ Ok (n, spot (moved p 8) rest)
double_again n p rest lt = double_general (double_word n) rest p refl ∙ ap (λ (k : ℕ). Ok (k, spot (moved p 8) rest)) (from_le_bytes-to_le_bytes_8 n lt)

pub double_short : (p : ℕ) (b : List ℕ) → length b < 8 → double_at (spot p b) ≡ Err (p, Truncated)
unfolding double_at
double_short p b lt = rw (exact_short p p 8 b lt) refl

-- two numbers that begin the same bytes are one
pub same_number : (v w : ℕ) (rest more : List ℕ) → v < 2 ^ 32 → w < 2 ^ 32 → word v ++ rest ≡ word w ++ more → (v ≡ w) × (rest ≡ more)
same_number v w rest more lt lt_too is = (
  sym (from_le_bytes-to_le_bytes_4 v lt) ∙ ap (from_le_bytes w32) (sym (take_at (word v) rest 4 refl) ∙ ap (take 4) is ∙ take_at (word w) more 4 refl) ∙ from_le_bytes-to_le_bytes_4 w lt_too,
  sym (drop_at (word v) rest 4 refl) ∙ ap (drop 4) is ∙ drop_at (word w) more 4 refl,
)

-- ---- bytes that come apart

pub bytes_after : (b x y : List ℕ) → b ≡ x ++ y → AreBytes b → AreBytes y
bytes_after b x y e bytes k =
    let same : get_or b (length x + k) 0 ≡ get_or y k 0 = ap (λ (z : List ℕ). get_or z (length x + k) 0) e ∙ get_or-append-add x y k 0 in
    omega (arith, same, bytes (length x + k))

pub bytes_before : (n : ℕ) (b : List ℕ) → n ≤ length b → AreBytes b → AreBytes (take n b)
bytes_before n b le bytes k =
    elim (cases_lt k n) [
      | inl lt ↦ omega (arith, get_or-take n b k 0 lt, bytes k)
      | inr past ↦ omega (arith, get_or_past (take n b) k 0 (omega (arith, length-take-le n b le, past)))
    ]

-- bytes begin with an item of n bytes, or end before
pub data BeginsItem (n : ℕ) (b : List ℕ) : Type 0 where
  short : length b < n → BeginsItem n b
  whole : (x rest : List ℕ) → length x ≡ n → b ≡ x ++ rest → BeginsItem n b

pub begins_item : (n : ℕ) (b : List ℕ) → BeginsItem n b
begins_item n b =
    elim (cases_lt (length b) n) [
      | inl lt ↦ short lt
      | inr le ↦ whole (take n b) (drop n b) (length-take-le n b le) (sym (take-append-drop n b))
    ]

-- bytes begin with a number of four bytes, or end before
pub data BeginsWord (b : List ℕ) : Type 0 where
  short : length b < 4 → BeginsWord b
  whole : (w : ℕ) (rest : List ℕ) → w < 2 ^ 32 → b ≡ word w ++ rest → AreBytes rest → BeginsWord b

pub begins_word : (b : List ℕ) → AreBytes b → BeginsWord b
begins_word b bytes =
    elim (cases_lt (length b) 4) [
      | inl lt ↦ short lt
      | inr le ↦
          let prefix = take 4 b in
          let taken = bytes_before 4 b le bytes in
          let w = from_le_bytes w32 prefix in
          let is : word w ≡ prefix = le_bytes_4 prefix w (length-take-le 4 b le) taken refl in
          let split : b ≡ word w ++ drop 4 b = sym (take-append-drop 4 b) ∙ ap (λ (z : List ℕ). z ++ drop 4 b) (sym is) in
          whole w (drop 4 b) (word_fits prefix taken) split (bytes_after b (word w) (drop 4 b) split bytes)
    ]

-- bytes begin with a number of eight bytes, or end before
pub data BeginsDouble (b : List ℕ) : Type 0 where
  short : length b < 8 → BeginsDouble b
  whole : (w : ℕ) (rest : List ℕ) → w < 2 ^ 64 → b ≡ double_word w ++ rest → BeginsDouble b

pub begins_double : (b : List ℕ) → AreBytes b → BeginsDouble b
begins_double b bytes =
    elim (cases_lt (length b) 8) [
      | inl lt ↦ short lt
      | inr le ↦
          let prefix = take 8 b in
          let taken = bytes_before 8 b le bytes in
          let w = from_le_bytes w64 prefix in
          let is : double_word w ≡ prefix = le_bytes_8 prefix w (length-take-le 8 b le) taken refl in
          let split : b ≡ double_word w ++ drop 8 b = sym (take-append-drop 8 b) ∙ ap (λ (z : List ℕ). z ++ drop 8 b) (sym is) in
          whole w (drop 8 b) (double_fits prefix taken) split
    ]
