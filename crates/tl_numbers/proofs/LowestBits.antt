-- The bits of numbers.
use Rattle.std.proofs.Common.{◌≡◌, Bool, true, false, not, ℕ, zero, suc, ◌+◌, ◌-◌, ◌*◌, ◌/◌, ◌%◌, ◌^◌, ◌<◌, ◌==◌, List, [], ◌∷◌, ◌++◌, length, map, bit_xor, refl, ◌∙◌, ap, ap₂, arith}
use Rattle.std.proofs.Math.Nat.{pow-suc}
use Rattle.std.proofs.Math.Pow.{mod-mod-pow}
use Rattle.std.proofs.lemmas.Nat.{field_of, shr-shr, xor_mod, xor_shr}
use Rattle.tl_numbers.specs.Crc.{lowest_bits, xor, xor_bits, zeros}

pub length-lowest : (k n : ℕ) → length (lowest_bits k n) ≡ k
unfolding lowest_bits
length-lowest zero n = refl
length-lowest (suc k) n = ap suc (length-lowest k (n / 2))

pub lowest_of_zero : (k : ℕ) → lowest_bits k 0 ≡ zeros k
unfolding lowest_bits
lowest_of_zero zero = refl
lowest_of_zero (suc k) = ap (λ (xs : List Bool). false ∷ xs) (lowest_of_zero k)

-- the bits above the lowest j are those of the quotient
pub lowest_more : (j k n : ℕ) → lowest_bits (j + k) n ≡ lowest_bits j n ++ lowest_bits k (n / 2 ^ j)
unfolding lowest_bits
lowest_more zero k n = ap₂ lowest_bits (omega arith) (omega arith)
lowest_more (suc j) k n =
    let e : suc j + k ≡ suc (j + k) = omega arith in
    let f : 1 + j ≡ suc j = omega arith in
    ap (λ (i : ℕ). lowest_bits i n) e
    ∙ ap (λ (xs : List Bool). (n % 2 == 1) ∷ xs) (lowest_more j k (n / 2) ∙ ap (λ (m : ℕ). lowest_bits j (n / 2) ++ lowest_bits k m) (shr-shr n 1 j ∙ ap (λ (i : ℕ). n / 2 ^ i) f))

pub lowest-mod : (k n : ℕ) → lowest_bits k (n % 2 ^ k) ≡ lowest_bits k n
unfolding lowest_bits
lowest-mod zero n = refl
lowest-mod (suc k) n =
    let e : suc k ≡ k + 1 = omega arith in
    ap₂ (λ (x : Bool) (xs : List Bool). x ∷ xs)
    (ap (λ (i : ℕ). n % 2 ^ i % 2 == 1) e ∙ ap (λ (i : ℕ). i == 1) (mod-mod-pow n k 1))
    (ap (λ (i : ℕ). lowest_bits k (n % 2 ^ i / 2)) e ∙ ap (lowest_bits k) (field_of n k 1) ∙ lowest-mod k (n / 2))

-- ---- the sum of two numbers' bits

bit_xor-digits : (x y : ℕ) → x < 2 → y < 2 → (bit_xor x y == 1) ≡ xor (x == 1) (y == 1)
bit_xor-digits zero zero v w = refl
bit_xor-digits zero (suc zero) v w = refl
bit_xor-digits (suc zero) zero v w = refl
bit_xor-digits (suc zero) (suc zero) v w = refl
bit_xor-digits (suc (suc x)) y v w = absurd (omega arith)
bit_xor-digits zero (suc (suc y)) v w = absurd (omega arith)
bit_xor-digits (suc zero) (suc (suc y)) v w = absurd (omega arith)

pub lowest-xor : (k m n : ℕ) → lowest_bits k (bit_xor m n) ≡ xor_bits (lowest_bits k m) (lowest_bits k n)
unfolding lowest_bits xor_bits
lowest-xor zero m n = refl
lowest-xor (suc k) m n =
    ap₂ (λ (x : Bool) (xs : List Bool). x ∷ xs)
    (ap (λ (i : ℕ). i == 1) (xor_mod m n 1) ∙ bit_xor-digits (m % 2) (n % 2) (omega arith) (omega arith))
    (ap (lowest_bits k) (xor_shr m n 1) ∙ lowest-xor k (m / 2) (n / 2))

-- ---- each bit turned over

turned_digit : (x y : ℕ) → x + y ≡ 1 → not (x == 1) ≡ (y == 1)
turned_digit zero zero e = absurd (omega arith)
turned_digit zero (suc zero) e = refl
turned_digit zero (suc (suc y)) e = absurd (omega arith)
turned_digit (suc zero) zero e = refl
turned_digit (suc zero) (suc y) e = absurd (omega arith)
turned_digit (suc (suc x)) y e = absurd (omega arith)

pub turned : (k n : ℕ) → n < 2 ^ k → map not (lowest_bits k (2 ^ k - 1 - n)) ≡ lowest_bits k n
unfolding lowest_bits
turned zero n w = refl
turned (suc k) n w =
    let p = pow-suc 2 k in
    let e : (2 ^ suc k - 1 - n) % 2 + n % 2 ≡ 1 = omega (arith, p, w) in
    let f : (2 ^ suc k - 1 - n) / 2 ≡ 2 ^ k - 1 - n / 2 = omega (arith, p, w) in
    ap₂ (λ (x : Bool) (xs : List Bool). x ∷ xs) (turned_digit _ _ e) (ap (λ (i : ℕ). map not (lowest_bits k i)) f ∙ turned k (n / 2) (omega (arith, p, w)))

-- ---- a number by its bits

pub number_of : List Bool → ℕ
number_of [] = 0
number_of (true ∷ xs) = number_of xs * 2 + 1
number_of (false ∷ xs) = number_of xs * 2

pub number_below : (xs : List Bool) → number_of xs < 2 ^ length xs
unfolding number_of
number_below [] = omega arith
number_below (true ∷ xs) = omega (arith, pow-suc 2 (length xs), number_below xs)
number_below (false ∷ xs) = omega (arith, pow-suc 2 (length xs), number_below xs)

pub lowest-number_of : (xs : List Bool) → lowest_bits (length xs) (number_of xs) ≡ xs
unfolding lowest_bits number_of
lowest-number_of [] = refl
lowest-number_of (true ∷ xs) =
    let n = number_of xs in
    let e : (n * 2 + 1) % 2 ≡ 1 = omega arith in
    let f : (n * 2 + 1) / 2 ≡ n = omega arith in
    ap₂ (λ (x : Bool) (ys : List Bool). x ∷ ys) (ap (λ (i : ℕ). i == 1) e) (ap (lowest_bits (length xs)) f ∙ lowest-number_of xs)
lowest-number_of (false ∷ xs) =
    let n = number_of xs in
    let e : (n * 2) % 2 ≡ 0 = omega arith in
    let f : (n * 2) / 2 ≡ n = omega arith in
    ap₂ (λ (x : Bool) (ys : List Bool). x ∷ ys) (ap (λ (i : ℕ). i == 1) e) (ap (lowest_bits (length xs)) f ∙ lowest-number_of xs)

same_digit : (x y : ℕ) → x < 2 → y < 2 → (x == 1) ≡ (y == 1) → x ≡ y
same_digit zero zero v w e = refl
same_digit zero (suc zero) v w e = cc
same_digit (suc zero) zero v w e = cc
same_digit (suc zero) (suc zero) v w e = refl
same_digit (suc (suc x)) y v w e = absurd (omega arith)
same_digit zero (suc (suc y)) v w e = absurd (omega arith)
same_digit (suc zero) (suc (suc y)) v w e = absurd (omega arith)

pub same_from_lowest : (k m n : ℕ) → m < 2 ^ k → n < 2 ^ k → lowest_bits k m ≡ lowest_bits k n → m ≡ n
unfolding lowest_bits
same_from_lowest zero m n v w e = omega arith
same_from_lowest (suc k) m n v w e =
    let p = pow-suc 2 k in
    let f : (m % 2 == 1) ≡ (n % 2 == 1) = cc in
    let g : lowest_bits k (m / 2) ≡ lowest_bits k (n / 2) = cc in
    let h : m / 2 ≡ n / 2 = same_from_lowest k (m / 2) (n / 2) (omega (arith, p, v)) (omega (arith, p, w)) g in
    omega (arith, h, same_digit (m % 2) (n % 2) (omega arith) (omega arith) f)
