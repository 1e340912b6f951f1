-- Laws of the sum of polynomials, and what one coefficient more of a quotient adds to the product.
use Rattle.std.proofs.Common.{◌≡◌, Bool, true, false, ℕ, zero, suc, ◌+◌, List, [], ◌∷◌, ◌++◌, length, if◌then◌else◌, refl, sym, ◌∙◌, ap, ap₂, arith}
use Rattle.std.proofs.lemmas.List.{replicate-append-replicate}
use Rattle.tl_numbers.specs.Crc.{lowest_bits, xor, xor_bits, zeros, divisor, times}

-- ---- one coefficient

xor_swap : (a b : Bool) → xor a b ≡ xor b a
xor_swap true true = refl
xor_swap true false = refl
xor_swap false true = refl
xor_swap false false = refl

xor_regroup : (a b c : Bool) → xor (xor a b) c ≡ xor a (xor b c)
xor_regroup true true true = refl
xor_regroup true true false = refl
xor_regroup true false true = refl
xor_regroup true false false = refl
xor_regroup false b c = refl

xor_back : (a b : Bool) → xor a (xor a b) ≡ b
xor_back true true = refl
xor_back true false = refl
xor_back false b = refl

-- ---- sums

pub length-xor : (xs ys : List Bool) → length xs ≡ length ys → length (xor_bits xs ys) ≡ length xs
unfolding xor_bits
length-xor [] ys e = refl
length-xor (x ∷ xs) [] e = absurd (omega arith)
length-xor (x ∷ xs) (y ∷ ys) e = ap suc (length-xor xs ys (omega arith))

pub bits_swap : (xs ys : List Bool) → xor_bits xs ys ≡ xor_bits ys xs
unfolding xor_bits
bits_swap [] [] = refl
bits_swap [] (y ∷ ys) = refl
bits_swap (x ∷ xs) [] = refl
bits_swap (x ∷ xs) (y ∷ ys) = ap₂ (λ (z : Bool) (zs : List Bool). z ∷ zs) (xor_swap x y) (bits_swap xs ys)

pub bits_regroup : (xs ys zs : List Bool) → xor_bits (xor_bits xs ys) zs ≡ xor_bits xs (xor_bits ys zs)
unfolding xor_bits
bits_regroup [] ys zs = refl
bits_regroup (x ∷ xs) [] zs = refl
bits_regroup (x ∷ xs) (y ∷ ys) [] = refl
bits_regroup (x ∷ xs) (y ∷ ys) (z ∷ zs) = ap₂ (λ (b : Bool) (bs : List Bool). b ∷ bs) (xor_regroup x y z) (bits_regroup xs ys zs)

pub bits_back : (xs ys : List Bool) → length xs ≡ length ys → xor_bits xs (xor_bits xs ys) ≡ ys
unfolding xor_bits
bits_back [] [] e = refl
bits_back [] (y ∷ ys) e = absurd (omega arith)
bits_back (x ∷ xs) [] e = absurd (omega arith)
bits_back (x ∷ xs) (y ∷ ys) e = ap₂ (λ (z : Bool) (zs : List Bool). z ∷ zs) (xor_back x y) (bits_back xs ys (omega arith))

pub bits_cancel : (xs ys zs : List Bool) → length xs ≡ length ys → length xs ≡ length zs → xor_bits xs ys ≡ xor_bits xs zs → ys ≡ zs
bits_cancel xs ys zs e f g = sym (bits_back xs ys e) ∙ ap (xor_bits xs) g ∙ bits_back xs zs f

pub zeros_xor : (n : ℕ) (xs : List Bool) → length xs ≡ n → xor_bits (zeros n) xs ≡ xs
unfolding xor_bits
zeros_xor zero [] e = refl
zeros_xor zero (x ∷ xs) e = absurd (omega arith)
zeros_xor (suc n) [] e = absurd (omega arith)
zeros_xor (suc n) (x ∷ xs) e = ap (λ (zs : List Bool). x ∷ zs) (zeros_xor n xs (omega arith))

pub bits_append : (xs ys us vs : List Bool) → length xs ≡ length ys → xor_bits (xs ++ us) (ys ++ vs) ≡ xor_bits xs ys ++ xor_bits us vs
unfolding xor_bits
bits_append [] [] us vs e = refl
bits_append [] (y ∷ ys) us vs e = absurd (omega arith)
bits_append (x ∷ xs) [] us vs e = absurd (omega arith)
bits_append (x ∷ xs) (y ∷ ys) us vs e = ap (λ (zs : List Bool). xor x y ∷ zs) (bits_append xs ys us vs (omega arith))

-- ---- products

-- the divisor below its highest power, or nothing
abbrev pub term : Bool → List Bool
term q = if q then lowest_bits 32 0xedb88320 else zeros 32

-- a quotient times the divisor, plus a remainder
abbrev pub whole : List Bool → List Bool → List Bool
whole qs r = xor_bits (times qs) (zeros (length qs) ++ r)

-- the highest coefficient of the whole is that of the quotient
pub whole-cons : (q : Bool) (qs r : List Bool) → whole (q ∷ qs) r ≡ q ∷ xor_bits (term q ++ zeros (length qs)) (whole qs r)
unfolding times divisor xor_bits
whole-cons true qs r = ap (λ (zs : List Bool). true ∷ zs) (bits_regroup (term true ++ zeros (length qs)) (times qs) (zeros (length qs) ++ r))
whole-cons false qs r =
    let e : 33 + length qs ≡ suc (32 + length qs) = omega arith in
    let f : zeros (33 + length qs) ≡ false ∷ (zeros 32 ++ zeros (length qs)) =
    ap zeros e ∙ ap (λ (zs : List Bool). false ∷ zs) (sym (replicate-append-replicate 32 (length qs) false)) in
    ap (λ (zs : List Bool). xor_bits (xor_bits zs (false ∷ times qs)) (false ∷ (zeros (length qs) ++ r))) f
    ∙ ap (λ (zs : List Bool). false ∷ zs) (bits_regroup (zeros 32 ++ zeros (length qs)) (times qs) (zeros (length qs) ++ r))
