-- What stands for bytes in a JSON string.
use Rattle.std.proofs.Common.{◌≡◌, ℕ, ◌-◌, ◌/◌, ◌%◌, ◌<◌, ◌≤◌, List, [], ◌∷◌, ◌++◌, true, length, take, drop, get_or, slice_index, refl, sym, ap, ap₂, ◌∙◌, append-nil, arith, get_or-take, length-take-le}
use Rattle.std.proofs.lemmas.Grind.{flat_map-append}
use Rattle.std.proofs.lemmas.List.{take-append-drop, take_all}
use Rattle.hex.specs.Hex.{encode_lower, encode_with, lower_digits}
use Rattle.json.specs.Run.{is_plain}
use Rattle.json.specs.Print.{escape, escape_byte}
use Rattle.json.specs.Written.{PlainBetween}
use Rattle.json.proofs.Printed.Plain.{escape_on_plain}

pub escape-append : (xs ys : List ℕ) → escape (xs ++ ys) ≡ escape xs ++ escape ys
escape-append xs ys = flat_map-append escape_byte xs ys

-- the first bytes stand for themselves
pub run_plain : (xs : List ℕ) (n : ℕ) → n ≤ length xs → PlainBetween xs 0 n → escape (take n xs) ≡ take n xs
run_plain xs n within plain =
    let long = length-take-le n xs within in
    escape_on_plain true (take n xs) (λ k from to. ap is_plain (get_or-take n xs k 0 (omega (arith, to, long))) ∙ plain k from (omega (arith, to, long)))

-- a run, and what follows it
pub run_put : (xs run after : List ℕ) (n : ℕ) → n ≤ length xs → PlainBetween xs 0 n → run ≡ take n xs → after ≡ drop n xs → escape xs ≡ run ++ escape after
run_put xs run after n within plain front back =
    ap escape (sym (take-append-drop n xs)) ∙ escape-append (take n xs) (drop n xs) ∙ ap (λ l. l ++ escape (drop n xs)) (run_plain xs n within plain)
    ∙ ap₂ (λ (l m : List ℕ). l ++ escape m) (sym front) (sym back)

-- the last run
pub run_last : (xs run after : List ℕ) (n : ℕ) → n ≤ length xs → PlainBetween xs 0 n → run ≡ take n xs → after ≡ drop n xs → length after < 1 → escape xs ≡ run
run_last xs run [] n within plain front back none = run_put xs run [] n within plain front back ∙ append-nil run
run_last xs run (x ∷ after) n within plain front back none = absurd (omega arith)

-- a byte, and what follows it
pub byte_put : (xs : List ℕ) → 1 ≤ length xs → escape xs ≡ escape_byte (get_or xs 0 0) ++ escape (take (length xs - 1) (drop 1 xs))
byte_put [] some = absurd (omega arith)
byte_put (x ∷ xs) some =
    let count : length (x ∷ xs) - 1 ≡ length xs = omega arith in
    ap (λ l. escape_byte x ++ escape l) (sym (ap (λ n. take n xs) count ∙ take_all (length xs) xs (omega arith)))

-- ---- hexadecimal digits

encode-append : (t xs ys : List ℕ) → encode_with t (xs ++ ys) ≡ encode_with t xs ++ encode_with t ys
unfolding encode_with
encode-append t [] ys = refl
encode-append t (x ∷ xs) ys = ap (λ l. slice_index t (x / 16) ∷ slice_index t (x % 16) ∷ l) (encode-append t xs ys)

-- those of the first bytes, and those of the rest
pub digits_then : (xs : List ℕ) (n : ℕ) → escape (encode_lower xs) ≡ escape (encode_lower (take n xs)) ++ escape (encode_lower (drop n xs))
digits_then xs n =
    ap (λ l. escape (encode_lower l)) (sym (take-append-drop n xs)) ∙ ap escape (encode-append lower_digits (take n xs) (drop n xs)) ∙ escape-append (encode_lower (take n xs)) (encode_lower (drop n xs))
