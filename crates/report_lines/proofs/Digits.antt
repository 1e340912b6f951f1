-- Bytes as hexadecimal digits, one after the other.
use Rattle.std.proofs.Common.{◌≡◌, ℕ, ◌+◌, ◌<◌, ◌≤◌, ◌/◌, ◌%◌, ℤ, List, [], ◌∷◌, ◌++◌, length, drop, get_or, slice_index, append_assoc, append-nil, refl, sym, ap, ◌∙◌}
use Rattle.std.proofs.lemmas.List.{drop_all, drop_more}
use Rattle.hex.specs.Hex.{encode_lower, encode_with, lower_digits}
use Rattle.hex.proofs.Pairs.{encode_with-drop}
use Rattle.report_lines.specs.Closing.{id_bytes, ids_bytes}
use Rattle.report_lines.proofs.Puts.{next}

-- the two digits of the byte at an index are put
pub digits_put : (bytes : List ℕ) (i high low : ℕ) (before between after whole : List ℕ) → i < length bytes → high ≡ slice_index lower_digits (slice_index bytes i / 16) → low ≡ slice_index lower_digits (slice_index bytes i % 16)
    → before ++ encode_lower (drop i bytes) ≡ whole → between ≡ before ++ high ∷ [] → after ≡ between ++ low ∷ [] → after ++ encode_lower (drop (i + 1) bytes) ≡ whole
digits_put bytes i high low before between after whole lt h l so one two =
    rw (two, one, append_assoc, append_assoc, h, l) (rw (encode_with-drop lower_digits bytes i lt) at so)

pub digits_done : (bytes : List ℕ) (i : ℕ) (before whole : List ℕ) → length bytes ≤ i → before ++ encode_lower (drop i bytes) ≡ whole → before ≡ whole
unfolding encode_with
digits_done bytes i before whole le so = sym (append-nil before) ∙ ap (λ (t : List ℕ). before ++ encode_lower t) (sym (drop_all i bytes le)) ∙ so

encoded_both : (xs ys : List ℕ) → encode_lower (xs ++ ys) ≡ encode_lower xs ++ encode_lower ys
unfolding encode_with
encoded_both [] ys = refl
encoded_both (x ∷ xs) ys = ap (λ (t : List ℕ). slice_index lower_digits (x / 16) ∷ slice_index lower_digits (x % 16) ∷ t) (encoded_both xs ys)

-- the four bytes of the id at an index are put
pub ids_put : (ids : List ℤ) (i : ℕ) (d : ℤ) (before after whole : List ℕ) → i < length ids → before ++ encode_lower (ids_bytes (drop i ids)) ≡ whole → after ≡ before ++ encode_lower (id_bytes (get_or ids i d)) → after ++ encode_lower (ids_bytes (drop (i + 1) ids)) ≡ whole
ids_put ids i d before after whole lt so put =
    let parts : encode_lower (ids_bytes (drop i ids)) ≡ encode_lower (id_bytes (get_or ids i d)) ++ encode_lower (ids_bytes (drop (i + 1) ids)) =
    ap (λ (l : List ℤ). encode_lower (ids_bytes l)) (drop_more ids i d lt) ∙ encoded_both (id_bytes (get_or ids i d)) (ids_bytes (drop (i + 1) ids)) in
    next before after (encode_lower (id_bytes (get_or ids i d))) (encode_lower (ids_bytes (drop (i + 1) ids))) whole (ap (λ (t : List ℕ). before ++ t) (sym parts) ∙ so) put

pub ids_done : (ids : List ℤ) (i : ℕ) (before whole : List ℕ) → length ids ≤ i → before ++ encode_lower (ids_bytes (drop i ids)) ≡ whole → before ≡ whole
unfolding encode_with
ids_done ids i before whole le so = sym (append-nil before) ∙ ap (λ (l : List ℤ). before ++ encode_lower (ids_bytes l)) (sym (drop_all i ids le)) ∙ so
