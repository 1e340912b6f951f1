-- The table of what eight steps leave of each byte.
use Rattle.std.proofs.Common.{◌≡◌, Bool, true, false, ℕ, zero, suc, ◌+◌, ◌/◌, ◌%◌, ◌^◌, ◌<◌, ◌==◌, if◌then◌else◌, List, [], ◌∷◌, ◌++◌, length, get_or, bit_and, bit_xor, refl, sym, ◌∙◌, ap, ap₂, arith}
use Rattle.std.proofs.lemmas.Bool.{cond_both}
use Rattle.std.proofs.lemmas.Nat.{and_mask, xor_of_32}
use Rattle.std.proofs.Math.Nat.{div-eq_of_lt, zero-add}
use Rattle.tl_numbers.specs.Crc.{lowest_bits, xor_bits, zeros}
use Rattle.tl_numbers.proofs.LowestBits.{length-lowest, lowest_of_zero, lowest_more, lowest-mod, lowest-xor}
use Rattle.tl_numbers.proofs.Polynomials.{zeros_xor, bits_swap, term}
use Rattle.tl_numbers.proofs.Register.{step, run, length-run, split}

-- a step of the register on numbers, where the text's bit is 0
abbrev number_step : ℕ → ℕ
number_step n = if n % 2 == 1 then bit_xor (n / 2) 0xedb88320 else n / 2

abbrev number_steps : ℕ → ℕ → ℕ
number_steps zero n = n
number_steps (suc k) n = number_steps k (number_step n)

-- what eight steps leave of each number from i on, of so many
unfoldable pub remainders : ℕ → ℕ → List ℕ
remainders zero i = []
remainders (suc k) i = number_steps 8 i ∷ remainders k (suc i)

entry_is : (k i j : ℕ) → j < k → get_or (remainders k i) j 0 ≡ number_steps 8 (i + j)
unfolding remainders
entry_is zero i j w = absurd (omega arith)
entry_is (suc k) i zero w =
    let e : i ≡ i + 0 = omega arith in
    ap (number_steps 8) e
entry_is (suc k) i (suc j) w =
    let e : suc i + j ≡ i + suc j = omega arith in
    entry_is k (suc i) j (omega arith) ∙ ap (number_steps 8) e

-- ---- the steps on numbers are those of the register

lowest-below : (j k n : ℕ) → n < 2 ^ j → lowest_bits (j + k) n ≡ lowest_bits j n ++ zeros k
lowest-below j k n w = lowest_more j k n ∙ ap (λ (m : ℕ). lowest_bits j n ++ lowest_bits k m) (div-eq_of_lt w) ∙ ap (λ (xs : List Bool). lowest_bits j n ++ xs) (lowest_of_zero k)

lowest_head : (k n : ℕ) → lowest_bits (suc k) n ≡ (n % 2 == 1) ∷ lowest_bits k (n / 2)
unfolding lowest_bits
lowest_head k n = refl

-- one step
step_term : (n : ℕ) (q : Bool) → xor_bits (lowest_bits 32 n) (term q) ≡ lowest_bits 32 (if q then bit_xor n 0xedb88320 else n)
step_term n true = sym (lowest-xor 32 n 0xedb88320)
step_term n false = bits_swap (lowest_bits 32 n) (zeros 32) ∙ zeros_xor 32 (lowest_bits 32 n) (length-lowest 32 n)

lowest-number_step : (n : ℕ) → n < 2 ^ 32 → step (lowest_bits 32 n) false ≡ lowest_bits 32 (number_step n)
unfolding step
lowest-number_step n w =
    ap (λ (xs : List Bool). step xs false) (lowest_head 31 n)
    ∙ ap (λ (xs : List Bool). xor_bits xs (term (n % 2 == 1))) (sym (lowest-below 31 1 (n / 2) (omega (arith, w))))
    ∙ step_term (n / 2) (n % 2 == 1)

number_step-below : (n : ℕ) → n < 2 ^ 32 → number_step n < 2 ^ 32
number_step-below n w = cond_both (n % 2 == 1) (bit_xor (n / 2) 0xedb88320) (n / 2) (λ m. m < 2 ^ 32) (λ e. xor_of_32 (n / 2) 0xedb88320 (omega (arith, w)) (omega arith)) (λ e. omega (arith, w))

lowest-number_steps : (k n : ℕ) → n < 2 ^ 32 → run (lowest_bits 32 n) (zeros k) ≡ lowest_bits 32 (number_steps k n)
unfolding run
lowest-number_steps zero n w = refl
lowest-number_steps (suc k) n w = ap (λ (c : List Bool). run c (zeros k)) (lowest-number_step n w) ∙ lowest-number_steps k (number_step n) (number_step-below n w)

-- a byte's entry is what the register holds after that byte, having begun with zeros
entry_bits : (n : ℕ) → n < 256 → lowest_bits 32 (number_steps 8 n) ≡ run (zeros 32) (lowest_bits 8 n)
entry_bits n w =
    let a = lowest_bits 8 n in
    let e : lowest_bits 32 n ≡ xor_bits (a ++ zeros 24) (zeros 32) =
    lowest-below 8 24 n w ∙ sym (zeros_xor 32 (a ++ zeros 24) (sym (ap length (lowest-below 8 24 n w)) ∙ length-lowest 32 n)) ∙ bits_swap (zeros 32) (a ++ zeros 24) in
    sym (lowest-number_steps 8 n (omega (arith, w)))
    ∙ ap (λ (c : List Bool). run c (zeros 8)) e
    ∙ split a (zeros 24) (zeros 32) (zeros 8) (length-lowest 8 n) refl refl
    ∙ zeros_xor 32 (run (zeros 32) (xor_bits a (zeros 8))) (length-run (zeros 32) (xor_bits a (zeros 8)) refl)
    ∙ ap (run (zeros 32)) (bits_swap a (zeros 8) ∙ zeros_xor 8 a (length-lowest 8 n))

-- ---- a byte of the text

lowest-mask : (n : ℕ) → lowest_bits 8 (bit_and n 255) ≡ lowest_bits 8 n
lowest-mask n = ap (lowest_bits 8) (and_mask n 8) ∙ lowest-mod 8 n

pub byte_taken : (n b : ℕ) → n < 2 ^ 32
    → lowest_bits 32 (bit_xor (n / 256) (get_or (remainders 256 0) (bit_and (bit_xor n b) 255) 0)) ≡ run (lowest_bits 32 n) (lowest_bits 8 b)
byte_taken n b w =
    let j = bit_and (bit_xor n b) 255 in
    let v : j < 256 = omega (arith, and_mask (bit_xor n b) 8) in
    let x = get_or (remainders 256 0) j 0 in
    let hi = lowest_bits 24 (n / 256) in
    let lo = lowest_bits 8 n in
    let e : x ≡ number_steps 8 j = entry_is 256 0 j v ∙ ap (number_steps 8) (zero-add j) in
    let f : lowest_bits 32 x ≡ run (zeros 32) (xor_bits lo (lowest_bits 8 b)) =
    ap (lowest_bits 32) e ∙ entry_bits j v ∙ ap (run (zeros 32)) (lowest-mask (bit_xor n b) ∙ lowest-xor 8 n b) in
    let g : lowest_bits 32 (n / 256) ≡ hi ++ zeros (length (lowest_bits 8 b)) =
    lowest-below 24 8 (n / 256) (omega (arith, w)) ∙ ap (λ (k : ℕ). hi ++ zeros k) (sym (length-lowest 8 b)) in
    let k : lowest_bits 32 n ≡ xor_bits (lo ++ hi) (zeros 32) =
    lowest_more 8 24 n ∙ sym (zeros_xor 32 (lo ++ hi) (sym (ap length (lowest_more 8 24 n)) ∙ length-lowest 32 n)) ∙ bits_swap (zeros 32) (lo ++ hi) in
    lowest-xor 32 (n / 256) x
    ∙ ap₂ xor_bits g f
    ∙ sym (split lo hi (zeros 32) (lowest_bits 8 b) (length-lowest 8 n ∙ sym (length-lowest 8 b)) (ap₂ (λ (p q : ℕ). p + q) (length-lowest 24 (n / 256)) (length-lowest 8 b)) refl)
    ∙ ap (λ (c : List Bool). run c (lowest_bits 8 b)) (sym k)
