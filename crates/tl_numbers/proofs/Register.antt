-- The division of a text's bits by a register of 32 bits.
use Rattle.std.proofs.Common.{◌≡◌, Bool, true, false, ℕ, suc, ◌+◌, List, [], ◌∷◌, ◌++◌, length, refl, sym, ◌∙◌, ap, ap₂, arith}
use Rattle.std.proofs.lemmas.List.{append-nil, append_assoc, length-append, length-replicate}
use Rattle.tl_numbers.specs.Crc.{xor, xor_bits, zeros, times}
use Rattle.tl_numbers.proofs.LowestBits.{length-lowest}
use Rattle.tl_numbers.proofs.Polynomials.{length-xor, bits_swap, bits_regroup, bits_back, zeros_xor, bits_append, term, whole, whole-cons}

-- one bit more is divided
unfoldable pub step : List Bool → Bool → List Bool
step [] b = []
step (t ∷ c) b = xor_bits (c ++ false ∷ []) (term (xor b t))

unfoldable pub run : List Bool → List Bool → List Bool
run c [] = c
run c (b ∷ m) = run (step c b) m

pub run_on : (c m k : List Bool) → run c (m ++ k) ≡ run (run c m) k
unfolding run
run_on c [] k = refl
run_on c (b ∷ m) k = run_on (step c b) m k

pub length-term : (q : Bool) → length (term q) ≡ 32
length-term true = length-lowest 32 0xedb88320
length-term false = refl

length-shifted : (c : List Bool) → suc (length c) ≡ 32 → length (c ++ false ∷ []) ≡ 32
length-shifted c e = omega (arith, length-append c (false ∷ []))

pub length-step : (c : List Bool) (b : Bool) → length c ≡ 32 → length (step c b) ≡ 32
unfolding step
length-step [] b e = absurd (omega arith)
length-step (t ∷ c) b e =
    let f = length-shifted c e in
    length-xor (c ++ false ∷ []) (term (xor b t)) (f ∙ sym (length-term (xor b t))) ∙ f

pub length-run : (c m : List Bool) → length c ≡ 32 → length (run c m) ≡ 32
unfolding run
length-run c [] e = e
length-run c (b ∷ m) e = length-run (step c b) m (length-step c b e)

-- ---- the register holds the remainder

taken : (n : ℕ) (xs c t : List Bool) → length xs ≡ n + 32 → suc (length c) ≡ 32 → length t ≡ 32
    → xor_bits (t ++ zeros n) (xor_bits xs (xor_bits (c ++ false ∷ []) t ++ zeros n)) ≡ xor_bits xs (c ++ false ∷ zeros n)
taken n xs c t e f g =
    let s = c ++ false ∷ [] in
    let y = t ++ zeros n in
    let z = c ++ false ∷ zeros n in
    let ls : length s ≡ 32 = length-shifted c f in
    let ly : length y ≡ 32 + n = omega (arith, length-append t (zeros n), length-replicate n false) in
    let lz : length z ≡ 32 + n = omega (arith, length-append c (false ∷ zeros n), length-replicate n false) in
    let p : xor_bits s t ++ zeros n ≡ xor_bits z y =
    ap (λ (ws : List Bool). xor_bits s t ++ ws) (sym (zeros_xor n (zeros n) (length-replicate n false)))
    ∙ sym (bits_append s t (zeros n) (zeros n) (ls ∙ sym g))
    ∙ ap (λ (ws : List Bool). xor_bits ws y) (append_assoc c (false ∷ []) (zeros n)) in
    let lx : length y ≡ length (xor_bits xs z) = omega (arith, length-xor xs z (omega arith)) in
    ap (λ (ws : List Bool). xor_bits y (xor_bits xs ws)) p
    ∙ ap (xor_bits y) (sym (bits_regroup xs z y) ∙ bits_swap (xor_bits xs z) y)
    ∙ bits_back y (xor_bits xs z) lx

-- what is left to divide is a quotient times the divisor, plus what the register holds at the end
pub divided : (c m : List Bool) → length c ≡ 32
    → (quotient : List Bool) × (length quotient ≡ length m) × (xor_bits (m ++ zeros 32) (c ++ zeros (length m)) ≡ whole quotient (run c m))
unfolding times run step xor_bits
divided c [] e = ([], refl, ap (xor_bits (zeros 32)) (append-nil c))
divided [] (b ∷ m) e = absurd (omega arith)
divided (t ∷ c) (b ∷ m) e =
    let q = xor b t in
    let r = step (t ∷ c) b in
    let next = divided r m (length-step (t ∷ c) b e) in
    let n = length m in (
      q ∷ next.0,
      ap suc next.1,
      ap (λ (ws : List Bool). q ∷ ws)
          (sym (taken n (m ++ zeros 32) c (term q) (length-append m (zeros 32)) e (length-term q))
          ∙ ap₂ (λ (k : ℕ) (ws : List Bool). xor_bits (term q ++ zeros k) ws) (sym next.1) next.2)
          ∙ sym (whole-cons q next.0 (run r m)),
    )

-- ---- many bits at once

moved : (a b c : Bool) → xor c (xor a b) ≡ xor (xor a c) b
moved true true true = refl
moved true true false = refl
moved true false true = refl
moved true false false = refl
moved false b c = refl

-- bits added at the start of the register go like bits of the text, and those after them move up
pub split : (a h c m : List Bool) → length a ≡ length m → length h + length m ≡ 32 → length c ≡ 32
    → run (xor_bits (a ++ h) c) m ≡ xor_bits (h ++ zeros (length m)) (run c (xor_bits a m))
unfolding run step xor_bits
split [] h c [] e f g = ap (λ (ws : List Bool). xor_bits ws c) (sym (append-nil h))
split [] h c (b ∷ m) e f g = absurd (omega arith)
split (s ∷ a) h c [] e f g = absurd (omega arith)
split (s ∷ a) h [] (b ∷ m) e f g = absurd (omega arith)
split (s ∷ a) h (t ∷ c) (b ∷ m) e f g =
    let q = xor (xor s b) t in
    let k = h ++ false ∷ [] in
    let r = xor_bits (c ++ false ∷ []) (term q) in
    let lk : length k ≡ length h + 1 = length-append h (false ∷ []) in
    let la : length (a ++ h) ≡ length c = omega (arith, length-append a h) in
    ap (λ (p : Bool). run (xor_bits (xor_bits (a ++ h) c ++ false ∷ []) (term p)) m) (moved s t b)
    ∙ ap (λ (ws : List Bool). run (xor_bits ws (term q)) m) (sym (bits_append (a ++ h) c (false ∷ []) (false ∷ []) la) ∙ ap (λ (ws : List Bool). xor_bits ws (c ++ false ∷ [])) (append_assoc a h (false ∷ [])))
    ∙ ap (λ (ws : List Bool). run ws m) (bits_regroup (a ++ k) (c ++ false ∷ []) (term q))
    ∙ split a k r m (omega arith) (omega arith) (length-xor (c ++ false ∷ []) (term q) (length-shifted c g ∙ sym (length-term q)) ∙ length-shifted c g)
    ∙ ap (λ (ws : List Bool). xor_bits ws (run r (xor_bits a m))) (append_assoc h (false ∷ []) (zeros (length m)))
