-- A text has one CRC.
use Rattle.std.proofs.Common.{◌≡◌, Bool, true, false, not, ℕ, suc, ◌+◌, ◌-◌, ◌^◌, ◌<◌, List, [], ◌∷◌, ◌++◌, length, map, replicate, refl, sym, ◌∙◌, ap, ap₂, subst, arith}
use Rattle.std.proofs.lemmas.List.{length-append, length-replicate}
use Rattle.tl_numbers.specs.Crc.{lowest_bits, text_bits, xor_bits, zeros, times, dividend, IsRemainder, IsCrc}
use Rattle.tl_numbers.proofs.LowestBits.{length-lowest, turned, number_of, number_below, lowest-number_of, same_from_lowest}
use Rattle.tl_numbers.proofs.Polynomials.{length-xor, bits_cancel, zeros_xor, term, whole, whole-cons}
use Rattle.tl_numbers.proofs.Register.{run, length-run, length-term, divided}

-- ---- there is one

-- a register that has taken all bits of a text, turned over, is the text's CRC
pub crc_is : (text : List ℕ) (n : ℕ) → n < 2 ^ 32 → lowest_bits 32 n ≡ run (replicate 32 true) (text_bits text) → IsCrc text (2 ^ 32 - 1 - n)
unfolding dividend
crc_is text n w e =
    let d = divided (replicate 32 true) (text_bits text) refl in
    record {
      small = omega arith;
      remainder = subst (IsRemainder (text_bits text)) (sym (turned 32 n w))
          (record {
            quotient = d.0;
            quotient_length = d.1;
            remainder_length = length-lowest 32 n;
            is_sum = d.2 ∙ ap (whole d.0) (sym e);
          });
    }

pub some_crc : (text : List ℕ) → (number : ℕ) × IsCrc text number
some_crc text =
    let r = run (replicate 32 true) (text_bits text) in
    let e : length r ≡ 32 = length-run (replicate 32 true) (text_bits text) refl in
    let n = number_of r in (
      2 ^ 32 - 1 - n,
      crc_is text n (subst (λ (k : ℕ). n < 2 ^ k) e (number_below r)) (subst (λ (k : ℕ). lowest_bits k n ≡ r) e (lowest-number_of r)),
    )

-- ---- there is no other

length-shift : (q : Bool) (n : ℕ) → length (term q ++ zeros n) ≡ n + 32
length-shift q n = omega (arith, length-append (term q) (zeros n), length-term q, length-replicate n false)

length-whole : (qs r : List Bool) → length r ≡ 32 → length (whole qs r) ≡ length qs + 32
unfolding times
length-whole [] r e = ap length (zeros_xor 32 r e) ∙ e
length-whole (q ∷ qs) r e =
    let t = term q ++ zeros (length qs) in
    let f : length t ≡ length (whole qs r) = length-shift q (length qs) ∙ sym (length-whole qs r e) in
    let g : length (whole (q ∷ qs) r) ≡ suc (length (xor_bits t (whole qs r))) = ap length (whole-cons q qs r) in
    omega (arith, g, length-xor t (whole qs r) f, length-shift q (length qs))

one_remainder : (qs ps r s : List Bool) → length qs ≡ length ps → length r ≡ 32 → length s ≡ 32 → whole qs r ≡ whole ps s → r ≡ s
unfolding times
one_remainder [] [] r s d e f g = bits_cancel (zeros 32) r s (sym e) (sym f) g
one_remainder [] (p ∷ ps) r s d e f g = absurd (omega arith)
one_remainder (q ∷ qs) [] r s d e f g = absurd (omega arith)
one_remainder (q ∷ qs) (p ∷ ps) r s d e f g =
    let l : length qs ≡ length ps = omega arith in
    let h : (q ∷ xor_bits (term q ++ zeros (length qs)) (whole qs r)) ≡ (p ∷ xor_bits (term p ++ zeros (length ps)) (whole ps s)) =
    sym (whole-cons q qs r) ∙ g ∙ whole-cons p ps s in
    let i : q ≡ p = cc in
    let j : xor_bits (term q ++ zeros (length qs)) (whole qs r) ≡ xor_bits (term p ++ zeros (length ps)) (whole ps s) = cc in
    let k : (term p ++ zeros (length ps)) ≡ (term q ++ zeros (length qs)) = ap₂ (λ (x : Bool) (m : ℕ). term x ++ zeros m) (sym i) (sym l) in
    let t = term q ++ zeros (length qs) in
    let lt = length-shift q (length qs) in
    let lq : length t ≡ length (whole qs r) = omega (arith, lt, length-whole qs r e) in
    let lp : length t ≡ length (whole ps s) = omega (arith, lt, l, length-whole ps s f) in
    one_remainder qs ps r s l e f (bits_cancel t (whole qs r) (whole ps s) lq lp (j ∙ ap (λ (xs : List Bool). xor_bits xs (whole ps s)) k))

not_twice : (xs : List Bool) → map not (map not xs) ≡ xs
not_twice [] = refl
not_twice (true ∷ xs) = ap (λ (ys : List Bool). true ∷ ys) (not_twice xs)
not_twice (false ∷ xs) = ap (λ (ys : List Bool). false ∷ ys) (not_twice xs)

pub one_crc : (text : List ℕ) (a b : ℕ) → IsCrc text a → IsCrc text b → a ≡ b
one_crc text a b x y =
    let e = one_remainder x.remainder.quotient y.remainder.quotient _ _ (x.remainder.quotient_length ∙ sym y.remainder.quotient_length)
    x.remainder.remainder_length y.remainder.remainder_length (sym x.remainder.is_sum ∙ y.remainder.is_sum) in
    same_from_lowest 32 a b x.small y.small (sym (not_twice (lowest_bits 32 a)) ∙ ap (map not) e ∙ not_twice (lowest_bits 32 b))
