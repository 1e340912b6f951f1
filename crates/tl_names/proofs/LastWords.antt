-- The last word of a name.
use Rattle.std.proofs.Common.{◌≡◌, ℕ, zero, suc, ◌+◌, ◌<◌, ◌≤◌, Bool, true, false, cond, not, ◌||◌, List, [], ◌∷◌, drop, get_or, length, position, None, Some, refl, ap, ap₂, sym, ◌∙◌, true≢false, if◌then◌else◌, add-one, arith}
use Rattle.std.specs.Prelude.{◌==◌}
use Rattle.std.specs.List.{list_any, position_or_len}
use Rattle.std.proofs.lemmas.Bool.{ltb-false}
use Rattle.std.proofs.lemmas.List.Quantifiers.{position-Some}
use Rattle.std.proofs.lemmas.Option.{none-some}
use Rattle.tl_names.specs.Writing.{last_word}

abbrev has_dot : List ℕ → Bool
has_dot xs = list_any (λ c. c == 46) xs

dot_there : (xs : List ℕ) (i : ℕ) → i < length xs → (get_or xs i 0 == 46) ≡ true → has_dot xs ≡ true
dot_there [] i within is = absurd (omega (arith, within))
dot_there (x ∷ xs) zero within is = ap (λ b. b || has_dot xs) is
dot_there (x ∷ xs) (suc i) within is = by (x == 46) (dot_there xs i (omega (arith, within)) is)
  where
    by : (b : Bool) → has_dot xs ≡ true → b || has_dot xs ≡ true
    by true later = refl
    by false later = later

no_dot : (xs : List ℕ) → length xs ≤ position_or_len (λ b. b == 46) xs → has_dot xs ≡ false
no_dot [] past = refl
no_dot (x ∷ xs) past = by (x == 46) refl (no_dot xs)
  where
    by : (b : Bool) → (x == 46) ≡ b → (length xs ≤ position_or_len (λ b. b == 46) xs → has_dot xs ≡ false) → has_dot (x ∷ xs) ≡ false
    by true e rest =
        let here = ap (λ b. cond (not b) (1 + position_or_len (λ b. b == 46) xs) 0) e in absurd (omega (arith, past, here))
    by false e rest =
        let here = ap (λ b. cond (not b) (1 + position_or_len (λ b. b == 46) xs) 0) e in
        ap (λ b. b || has_dot xs) e ∙ rest (omega (arith, past, here))

-- a name without a `.` is one Word
last_of_one : (xs : List ℕ) → has_dot xs ≡ false → last_word xs ≡ xs
last_of_one [] none = refl
last_of_one (x ∷ xs) none = by (x == 46) (has_dot xs) refl refl
  where
    by : (a b : Bool) → (x == 46) ≡ a → has_dot xs ≡ b → last_word (x ∷ xs) ≡ x ∷ xs
    by true b e f = absurd (true≢false (sym (ap (λ c. c || has_dot xs) e) ∙ none))
    by false true e f = absurd (true≢false (sym (ap₂ (λ c d. c || d) e f) ∙ none))
    by false false e f =
        ap (λ c. if c then last_word xs else if x == 46 then xs else x ∷ xs) f ∙ ap (λ c. if c then xs else x ∷ xs) e

last_later : (x : ℕ) (xs : List ℕ) → has_dot xs ≡ true → last_word (x ∷ xs) ≡ last_word xs
last_later x xs later = ap (λ c. if c then last_word xs else if x == 46 then xs else x ∷ xs) later

-- what stands before a `.` and the `.` may go
last_after_dot : (xs : List ℕ) (i : ℕ) → i < length xs → (get_or xs i 0 == 46) ≡ true → last_word (drop (suc i) xs) ≡ last_word xs
last_after_dot [] i within is = absurd (omega (arith, within))
last_after_dot (x ∷ xs) zero within is = by (has_dot xs) refl
  where
    by : (b : Bool) → has_dot xs ≡ b → last_word xs ≡ last_word (x ∷ xs)
    by true f = sym (last_later x xs f)
    by false f =
        last_of_one xs f ∙ sym (ap (λ c. if c then last_word xs else if x == 46 then xs else x ∷ xs) f ∙ ap (λ c. if c then xs else x ∷ xs) is)
last_after_dot (x ∷ xs) (suc i) within is =
    let later : i < length xs = omega (arith, within) in
    last_after_dot xs i later is ∙ sym (last_later x xs (dot_there xs i later is))

pub last_after : (xs : List ℕ) (i : ℕ) → position (λ b. b == 46) xs ≡ Some i → last_word (drop (i + 1) xs) ≡ last_word xs
last_after xs i at =
    let found = position-Some (λ b. b == 46) xs i 0 at in
    ap (λ n. last_word (drop n xs)) (add-one i) ∙ last_after_dot xs i found.0 found.1

no_index : (b : Bool) (i : ℕ) → cond b (Some i) None ≡ None → b ≡ false
no_index true i h = absurd (none-some i (sym h))
no_index false i h = refl

pub last_whole : (xs : List ℕ) → position (λ b. b == 46) xs ≡ None → last_word xs ≡ xs
last_whole xs none =
    last_of_one xs (no_dot xs (ltb-false (position_or_len (λ b. b == 46) xs) (length xs) (no_index _ _ none)))
