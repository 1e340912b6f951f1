-- Strings: how they are read, where they are refused, and that bytes begin with one or are refused.
use Rattle.std.proofs.Common.{◌≡◌, ◌≢◌, ℕ, zero, suc, ◌+◌, ◌*◌, ◌/◌, ◌%◌, ◌^◌, ◌≤◌, ◌<◌, List, [], ◌∷◌, ◌++◌, append_assoc, length, take, drop, replicate, Ok, Err, refl, sym, ap, ◌∙◌, subst, arith, true≢false, Bool, ◌&&◌, true, false, eqb, leb, take-append-drop, length-drop, inl, inr}
use Rattle.std.proofs.lemmas.List.{take_at, drop_at, length-append, length-replicate, length-take-le}
use Rattle.std.proofs.lemmas.Bool.{ne_eqb, cases_lt, le-leb, lt-leb}
use Rattle.tl_numbers.specs.Bytes.{AreBytes}
use Rattle.tl_types.specs.declared.cause.Cause.{Cause}
use Rattle.tl_types.specs.declared.cause.Cause.TheVariants.{Truncated, LongString, LooseString, BadPadding}
use Rattle.tl_types.specs.Texts.{text_bytes, text_head, three_bytes, missing}
use Rattle.tl_types.specs.Refusal.{TextRefused, TextHead}
use Rattle.tl_types.specs.Refusal as text
use Rattle.tl_types.specs.Offsets.{moved}
use Rattle.tl_types.specs.inner.Reading.{Spot, spot, exact_at, text_at, text_head_of, text_rest, text_end, text_more, all_zero, Head}
use Rattle.tl_types.proofs.Numbers.{moved_moved, fault_is, exact_again, exact_short}
use Rattle.tl_types.proofs.Members.{by_test}

-- ---- the padding

zeros_are : (n : ℕ) → all_zero (replicate n 0) ≡ true
zeros_are zero = refl
zeros_are (suc n) = zeros_are n

all_zeros : (pad : List ℕ) → all_zero pad ≡ true → pad ≡ replicate (length pad) 0
all_zeros [] e = refl
all_zeros (zero ∷ pad) e = ap (λ (z : List ℕ). 0 ∷ z) (all_zeros pad e)
all_zeros (suc n ∷ pad) e = absurd (true≢false (sym e ∙ ap (λ (b : Bool). b && all_zero pad) (ne_eqb (suc n) 0 (λ z. absurd (omega (arith, z))))))

not_zeros : (pad : List ℕ) → all_zero pad ≡ false → pad ≢ replicate (length pad) 0
not_zeros pad other same = true≢false (sym (ap all_zero same ∙ zeros_are (length pad)) ∙ other)

no_zeros : (pad : List ℕ) → pad ≢ replicate (length pad) 0 → all_zero pad ≡ false
no_zeros [] other = absurd (other refl)
no_zeros (zero ∷ pad) other = no_zeros pad (λ same. other (ap (λ (z : List ℕ). 0 ∷ z) same))
no_zeros (suc n ∷ pad) other = rw (ne_eqb (suc n) 0 (λ e. absurd (omega (arith, e)))) refl

end_good : (p : ℕ) (s pad : List ℕ) (q : Spot) → all_zero pad ≡ true → text_end p (length s) (s ++ pad) q ≡ Ok (s, q)
unfolding text_end
end_good p s pad q zeros = rw (drop_at s pad (length s) refl, take_at s pad (length s) refl, zeros) refl

end_bad : (p : ℕ) (s pad : List ℕ) (q : Spot) → all_zero pad ≡ false → text_end p (length s) (s ++ pad) q ≡ Err (p, BadPadding)
unfolding text_end
end_bad p s pad q no_zeros = rw (drop_at s pad (length s) refl, no_zeros) refl

-- a string with any head that is read as its own
text_any : (w more s pad rest : List ℕ) (h : Head) (p : ℕ) → length w ≡ 4 → text_head_of w ≡ Ok h → h.1 ≡ length s → drop h.0 w ++ more ≡ s ++ pad → length more ≡ text_more h → text_at (spot p (w ++ (more ++ rest))) ≡ text_end p (length s) (s ++ pad) (spot (moved (moved p 4) (length more)) rest)
unfolding text_at text_rest
text_any w more s pad rest h p four head len is long =
    let second : exact_at p (text_more h) (spot (moved p 4) (more ++ rest)) ≡ Ok (more, spot (moved (moved p 4) (length more)) rest) = exact_again p (moved p 4) more rest (text_more h) long ∙ ap (λ (k : ℕ). Ok (more, spot (moved (moved p 4) k) rest)) (sym long) in
    rw (exact_again p p w (more ++ rest) 4 four, head, second, is, len) refl

-- too little after the head
text_cut : (w tail : List ℕ) (h : Head) (p : ℕ) → length w ≡ 4 → text_head_of w ≡ Ok h → length tail < text_more h → text_at (spot p (w ++ tail)) ≡ Err (p, Truncated)
unfolding text_at text_rest
text_cut w tail h p four head few = rw (exact_again p p w tail 4 four, head, exact_short p (moved p 4) (text_more h) tail few) refl

-- a head that is none
text_wrong : (w tail : List ℕ) (cause : Cause) (p : ℕ) → length w ≡ 4 → text_head_of w ≡ Err cause → text_at (spot p (w ++ tail)) ≡ Err (p, cause)
unfolding text_at text_rest
text_wrong w tail cause p four head = rw (exact_again p p w tail 4 four, head) refl

short_head : (n : ℕ) (xs : List ℕ) → n ≤ 253 → text_head_of (n ∷ xs) ≡ Ok (1, n)
short_head n xs le =
    let a : eqb n 255 ≡ false = ne_eqb n 255 (λ e. absurd (omega (arith, e, le))) in
    let b : eqb n 254 ≡ false = ne_eqb n 254 (λ e. absurd (omega (arith, e, le))) in
    rw (a, b) refl

three_again : (n : ℕ) → n < 2 ^ 24 → n % 256 + 256 * ((n / 256) % 256) + 65536 * (n / 65536) ≡ n
three_again n lt = omega (arith, lt)

long_head : (n : ℕ) → 253 < n → n < 2 ^ 24 → text_head_of (254 ∷ three_bytes n) ≡ Ok (4, n)
long_head n gt lt = let e = three_again n lt in let f : leb n 253 ≡ false = lt-leb n 253 gt in rw (e, f) refl

text_short : (s : List ℕ) (pad rest : List ℕ) (p : ℕ) → length s ≤ 253 → length pad ≡ missing (1 + length s) → text_at (spot p ((length s ∷ (s ++ pad)) ++ rest)) ≡ text_end p (length s) (s ++ pad) (spot (moved p (length (length s ∷ (s ++ pad)))) rest)
text_short s pad rest p le width =
    let body = s ++ pad in
    let all = length s ∷ body in
    let len : length body ≡ length s + missing (1 + length s) = length-append s pad ∙ ap (λ (k : ℕ). length s + k) width in
    let big : 4 ≤ length all = omega (arith, len) in
    let cut : take 4 all ++ (drop 4 all ++ rest) ≡ all ++ rest = sym (append_assoc (take 4 all) (drop 4 all) rest) ∙ ap (λ (z : List ℕ). z ++ rest) (take-append-drop 4 all) in
    let more : length (drop 4 all) ≡ text_more (1, length s) = length-drop 4 all ∙ omega (arith, len) in
    ap (λ (z : List ℕ). text_at (spot p z)) (sym cut)
    ∙ text_any (take 4 all) (drop 4 all) s pad rest (1, length s) p (length-take-le 4 all big) (short_head (length s) (take 3 body) le) refl (take-append-drop 3 body) more
    ∙ ap (λ (k : ℕ). text_end p (length s) (s ++ pad) (spot k rest)) (moved_moved p 4 (length (drop 4 all)) (length all) (omega (arith, length-drop 4 all, big)))

text_long : (s : List ℕ) (pad rest : List ℕ) (p : ℕ) → 253 < length s → length s < 2 ^ 24 → length pad ≡ missing (4 + length s) → text_at (spot p ((254 ∷ three_bytes (length s)) ++ ((s ++ pad) ++ rest))) ≡ text_end p (length s) (s ++ pad) (spot (moved p (4 + length (s ++ pad))) rest)
text_long s pad rest p gt few width =
    let more : length (s ++ pad) ≡ text_more (4, length s) = length-append s pad ∙ omega (arith, width) in
    text_any (254 ∷ three_bytes (length s)) (s ++ pad) s pad rest (4, length s) p refl (long_head (length s) gt few) refl refl more
    ∙ ap (λ (k : ℕ). text_end p (length s) (s ++ pad) (spot k rest)) (moved_moved p 4 (length (s ++ pad)) (4 + length (s ++ pad)) refl)

pub text_again : (s : List ℕ) (p : ℕ) (rest : List ℕ) → length s < 2 ^ 24 → text_at (spot p (text_bytes s ++ rest)) ≡ Ok (s, spot (moved p (length (text_bytes s))) rest)
text_again s p rest few =
    elim (cases_lt 253 (length s)) [
      | inl gt ↦
          let e : leb (length s) 253 ≡ false = lt-leb (length s) 253 gt in
          let pad = replicate (missing (4 + length s)) 0 in
          let same : 4 + length (s ++ pad) ≡ length ((254 ∷ three_bytes (length s)) ++ s ++ pad) = omega arith in
          rw e (text_long s pad rest p gt few (length-replicate (missing (4 + length s)) 0) ∙ end_good p s pad _ (zeros_are (missing (4 + length s))) ∙ ap (λ (k : ℕ). Ok (s, spot (moved p k) rest)) same)
      | inr le ↦
          let e : leb (length s) 253 ≡ true = le-leb (length s) 253 le in
          let pad = replicate (missing (1 + length s)) 0 in
          rw e (text_short s pad rest p le (length-replicate (missing (1 + length s)) 0) ∙ end_good p s pad _ (zeros_are (missing (1 + length s))))
    ]

-- ---- refused

-- the first four bytes, and those after
parts : (b : List ℕ) → take 4 b ++ drop 4 b ≡ b
parts b = take-append-drop 4 b

loose_head : (n : ℕ) → n ≤ 253 → text_head_of (254 ∷ three_bytes n) ≡ Err LooseString
loose_head n le = let e = three_again n (omega (arith, le)) in let f : leb n 253 ≡ true = le-leb n 253 le in rw (e, f) refl

ended_text : (prefix rest : List ℕ) (n p : ℕ) → TextHead prefix n → 4 ≤ length (prefix ++ rest) → length rest < n + missing (length prefix + n) → text_at (spot p (prefix ++ rest)) ≡ Err (p, Truncated)
ended_text prefix rest n p (text.one le is) big few =
    let whole : prefix ++ rest ≡ n ∷ rest = ap (λ (z : List ℕ). z ++ rest) is in
    let one : length prefix ≡ 1 = ap length is in
    let four : 4 ≤ length (n ∷ rest) = omega (arith, big, ap length whole) in
    ap (λ (z : List ℕ). text_at (spot p z)) (whole ∙ sym (parts (n ∷ rest)))
    ∙ text_cut (take 4 (n ∷ rest)) (drop 4 (n ∷ rest)) (1, n) p (length-take-le 4 (n ∷ rest) four) (short_head n (take 3 rest) le) (omega (arith, length-drop 4 (n ∷ rest), rw one at few, four))
ended_text prefix rest n p (text.four gt lt is) big few =
    let len : length prefix ≡ 4 = ap length is in
    ap (λ (z : List ℕ). text_at (spot p (z ++ rest))) is
    ∙ text_cut (254 ∷ three_bytes n) rest (4, n) p refl (long_head n gt lt) (omega (arith, rw len at few))

padded_text : (prefix s pad rest : List ℕ) (p : ℕ) → TextHead prefix (length s) → length pad ≡ missing (length prefix + length s) → all_zero pad ≡ false → text_at (spot p (prefix ++ s ++ pad ++ rest)) ≡ Err (p, BadPadding)
padded_text prefix s pad rest p (text.one le is) width bad =
    let one : length prefix ≡ 1 = ap length is in
    ap (λ (z : List ℕ). text_at (spot p (z ++ s ++ pad ++ rest))) is ∙ text_short s pad rest p le (rw one at width) ∙ end_bad p s pad _ bad
padded_text prefix s pad rest p (text.four gt lt is) width bad =
    let four : length prefix ≡ 4 = ap length is in
    ap (λ (z : List ℕ). text_at (spot p (z ++ s ++ pad ++ rest))) is ∙ text_long s pad rest p gt lt (rw four at width) ∙ end_bad p s pad _ bad

pub text_refused : (b : List ℕ) (at : ℕ) (cause : Cause) (p : ℕ) → p < 2 ^ 64 → TextRefused b at cause → text_at (spot p b) ≡ Err (moved p at, cause)
unfolding text_at
text_refused b at cause p lt (text.short few here why) = rw (exact_short p p 4 b few) (ap Err (fault_is p at Truncated cause lt here why))
text_refused b at cause p lt (text.long_string rest big is here why) =
    ap (λ (z : List ℕ). text_at (spot p z)) (is ∙ sym (parts (255 ∷ rest)))
    ∙ text_wrong (take 4 (255 ∷ rest)) (drop 4 (255 ∷ rest)) LongString p (length-take-le 4 (255 ∷ rest) (omega (arith, big, ap length is))) refl ∙ ap Err (fault_is p at LongString cause lt here why)
text_refused b at cause p lt (text.loose_string n rest le is here why) =
    ap (λ (z : List ℕ). text_at (spot p z)) is ∙ text_wrong (254 ∷ three_bytes n) rest LooseString p refl (loose_head n le) ∙ ap Err (fault_is p at LooseString cause lt here why)
text_refused b at cause p lt (text.ended prefix rest n head big is few here why) =
    ap (λ (z : List ℕ). text_at (spot p z)) is ∙ ended_text prefix rest n p head (omega (arith, big, ap length is)) few ∙ ap Err (fault_is p at Truncated cause lt here why)
text_refused b at cause p lt (text.padding prefix s pad rest head is width other here why) =
    ap (λ (z : List ℕ). text_at (spot p z)) is ∙ padded_text prefix s pad rest p head width (no_zeros pad other) ∙ ap Err (fault_is p at BadPadding cause lt here why)

-- ---- one or the other

pub data TextDecided (b : List ℕ) : Type 0 where
  begins : (s rest : List ℕ) → length s < 2 ^ 24 → b ≡ text_bytes s ++ rest → TextDecided b
  none : (at : ℕ) (cause : Cause) → TextRefused b at cause → TextDecided b

head_is : (prefix : List ℕ) (n : ℕ) → TextHead prefix n → (prefix ≡ text_head n) × (n < 2 ^ 24)
head_is prefix n (text.one le is) = let e : leb n 253 ≡ true = le-leb n 253 le in (rw e is, omega (arith, le))
head_is prefix n (text.four gt lt is) = let e : leb n 253 ≡ false = lt-leb n 253 gt in (rw e is, lt)

whole_text : (b prefix s pad rest : List ℕ) → TextHead prefix (length s) → b ≡ prefix ++ s ++ pad ++ rest → length pad ≡ missing (length prefix + length s) → all_zero pad ≡ true → TextDecided b
whole_text b prefix s pad rest head is width zeros =
    let known = head_is prefix (length s) head in
    let padded : pad ≡ replicate (missing (length prefix + length s)) 0 = all_zeros pad zeros ∙ ap (λ (k : ℕ). replicate k 0) width in
    begins s rest known.1
    (is ∙ ap (λ (z : List ℕ). prefix ++ s ++ z ++ rest) padded ∙ ap (λ (x : List ℕ). (x ++ s ++ replicate (missing (length x + length s)) 0) ++ rest) known.0)

parts_decided : (b prefix s pad rest : List ℕ) → TextHead prefix (length s) → b ≡ prefix ++ s ++ pad ++ rest → length pad ≡ missing (length prefix + length s) → TextDecided b
parts_decided b prefix s pad rest head is width =
    by_test (all_zero pad)
    (λ zeros. whole_text b prefix s pad rest head is width zeros)
    (λ other. none 0 BadPadding (text.padding prefix s pad rest head is width (not_zeros pad other) refl refl))

cut_apart : (prefix rest : List ℕ) (n m : ℕ) → prefix ++ rest ≡ prefix ++ take n rest ++ take m (drop n rest) ++ drop m (drop n rest)
cut_apart prefix rest n m =
    let more = drop n rest in
    ap (λ (z : List ℕ). prefix ++ z) (sym (take-append-drop n rest) ∙ ap (λ (z : List ℕ). take n rest ++ z) (sym (take-append-drop m more)))
    ∙ sym (append_assoc prefix (take n rest) (take m more ++ drop m more)) ∙ sym (append_assoc (prefix ++ take n rest) (take m more) (drop m more))

after_head : (b prefix rest : List ℕ) (n : ℕ) → TextHead prefix n → 4 ≤ length b → b ≡ prefix ++ rest → TextDecided b
after_head b prefix rest n head big is =
    let m = missing (length prefix + n) in
    elim (cases_lt (length rest) (n + m)) [
      | inl few ↦ none 0 Truncated (text.ended prefix rest n head big is few refl refl)
      | inr enough ↦
          let long : length (take n rest) ≡ n = length-take-le n rest (omega (arith, enough)) in
          let width : length (take m (drop n rest)) ≡ m = length-take-le m (drop n rest) (omega (arith, enough, length-drop n rest)) in
          parts_decided b prefix (take n rest) (take m (drop n rest)) (drop m (drop n rest)) (subst (TextHead prefix) (sym long) head) (is ∙ cut_apart prefix rest n m)
          (width ∙ ap (λ (k : ℕ). missing (length prefix + k)) (sym long))
    ]

three_are : (x y z : ℕ) → x < 256 → y < 256 → z < 256 → three_bytes (x + 256 * y + 65536 * z) ≡ x ∷ y ∷ z ∷ []
three_are x y z lt_x lt_y lt_z =
    let a : (x + 256 * y + 65536 * z) % 256 ≡ x = omega (arith, lt_x, lt_y, lt_z) in
    let b : ((x + 256 * y + 65536 * z) / 256) % 256 ≡ y = omega (arith, lt_x, lt_y, lt_z) in
    let c : (x + 256 * y + 65536 * z) / 65536 ≡ z = omega (arith, lt_x, lt_y, lt_z) in
    rw (a, b, c) refl

long_decided : (x y z : ℕ) (rest : List ℕ) → x < 256 → y < 256 → z < 256 → TextDecided (254 ∷ x ∷ y ∷ z ∷ rest)
long_decided x y z rest lt_x lt_y lt_z =
    let n = x + 256 * y + 65536 * z in
    let is : three_bytes n ≡ x ∷ y ∷ z ∷ [] = three_are x y z lt_x lt_y lt_z in
    let whole : 254 ∷ x ∷ y ∷ z ∷ rest ≡ (254 ∷ three_bytes n) ++ rest = ap (λ (w : List ℕ). (254 ∷ w) ++ rest) (sym is) in
    elim (cases_lt 253 n) [
      | inl gt ↦ after_head _ (254 ∷ three_bytes n) rest n (text.four gt (omega (arith, lt_x, lt_y, lt_z)) refl) (omega arith) whole
      | inr le ↦ none 0 LooseString (text.loose_string n rest le whole refl refl)
    ]

head_decided : (c x y z : ℕ) (rest : List ℕ) → c < 256 → x < 256 → y < 256 → z < 256 → TextDecided (c ∷ x ∷ y ∷ z ∷ rest)
head_decided c x y z rest lt lt_x lt_y lt_z =
    elim (cases_lt 253 c) [
      | inr le ↦ after_head _ (c ∷ []) (x ∷ y ∷ z ∷ rest) c (text.one le refl) (omega arith) refl
      | inl gt ↦ elim (cases_lt 254 c) [
        | inl greater ↦ none 0 LongString (text.long_string (x ∷ y ∷ z ∷ rest) (omega arith) (ap (λ (k : ℕ). k ∷ x ∷ y ∷ z ∷ rest) (omega (arith, lt, greater))) refl refl)
        | inr le ↦
            let is : 254 ≡ c = omega (arith, gt, le) in
            subst (λ (k : ℕ). TextDecided (k ∷ x ∷ y ∷ z ∷ rest)) is (long_decided x y z rest lt_x lt_y lt_z)
      ]
    ]

pub text_decided : (b : List ℕ) → AreBytes b → TextDecided b
text_decided [] bytes = none 0 Truncated (text.short (omega arith) refl refl)
text_decided (c ∷ []) bytes = none 0 Truncated (text.short (omega arith) refl refl)
text_decided (c ∷ x ∷ []) bytes = none 0 Truncated (text.short (omega arith) refl refl)
text_decided (c ∷ x ∷ y ∷ []) bytes = none 0 Truncated (text.short (omega arith) refl refl)
text_decided (c ∷ x ∷ y ∷ z ∷ rest) bytes = head_decided c x y z rest (bytes 0) (bytes 1) (bytes 2) (bytes 3)
