-- Bytes of an announced number, taken in pieces.
use Rattle.std.proofs.Common.{◌≡◌, ℕ, ◌+◌, ◌-◌, ◌^◌, ◌<◌, ◌≤◌, List, [], ◌++◌, length, take, drop, Option, Some, None, Ok, Err, refl, ap, sym, ◌∙◌, arith, ltb, lt-ltb, le-ltb, true, false, append_assoc, append-nil, take-add, inl, inr}
use Rattle.std.specs.Prelude.{IfSome}
use Rattle.std.proofs.lemmas.List.{take_at, drop_at, length-append, drop-drop}
use Rattle.std.proofs.lemmas.Bool.{cases_lt}
use Rattle.tl_base.specs.Taking.{TakesInto}
use Rattle.tl_base.specs.declared.source.TakeFault.TheVariants as took
use Rattle.tl_types.specs.Offsets.{moved}
use Rattle.tl_types.specs.inner.Reading.{spot, exact_at, added_at}
use Rattle.tl_types.specs.declared.cause.Cause.TheVariants.{Truncated}
use Rattle.tl_types.proofs.Numbers.{moved_moved, exact_again, exact_short}
use Rattle.tl_types.proofs.Members.{some_is}
use Rattle.tl_decode.specs.declared.fault.DecodeFault.TheVariants.{Refused}
use Rattle.tl_decode.specs.inner.Steps.{ReadsAs}

-- what stands in `now` was read, and `left` bytes are still to come
pub Adding : List ℕ → ℕ → ℕ → Option (List ℕ) → Option (List ℕ) → ℕ → ℕ → List ℕ → ℕ → Type 0
Adding before place n None b p q now left = Unit {0}
Adding before place n (Some bytes) b p q now left = (rest : List ℕ) × (b ≡ Some rest) × (added_at now place left (spot q rest) ≡ added_at before place n (spot p bytes))

pub adding_none : (before : List ℕ) (place n : ℕ) (a : Option (List ℕ)) (p : ℕ) → Adding before place n a a p p before n
unfolding Adding
adding_none before place n None p = tt
adding_none before place n (Some bytes) p = (bytes, refl, refl)

split_at : (place q m n : ℕ) (now xs rest : List ℕ) → length xs ≡ m → added_at (now ++ xs) place n (spot (moved q m) rest) ≡ added_at now place (m + n) (spot q (xs ++ rest))
unfolding exact_at
split_at place q m n now xs rest len =
    elim (cases_lt (length rest) n) [
      | inl lt ↦
          let a : ltb (length rest) n ≡ true = lt-ltb _ _ lt in
          let b : ltb (length (xs ++ rest)) (m + n) ≡ true = lt-ltb _ _ (omega (arith, length-append xs rest, len, lt)) in
          rw (a, b) refl
      | inr le ↦
          let a : ltb (length rest) n ≡ false = le-ltb _ _ le in
          let b : ltb (length (xs ++ rest)) (m + n) ≡ false = le-ltb _ _ (omega (arith, length-append xs rest, len, le)) in
          let t : take (m + n) (xs ++ rest) ≡ xs ++ take n rest = take-add m n (xs ++ rest) ∙ ap (λ (z : List ℕ). z ++ take n (drop m (xs ++ rest))) (take_at xs rest m len) ∙ ap (λ (z : List ℕ). xs ++ take n z) (drop_at xs rest m len) in
          let d : drop (m + n) (xs ++ rest) ≡ drop n rest = sym (drop-drop n m (xs ++ rest)) ∙ ap (drop n) (drop_at xs rest m len) in
          rw (a, b, t, d, append_assoc now xs (take n rest), moved_moved q m n (m + n) refl) refl
    ]

pub adding_more : (before : List ℕ) (place n : ℕ) (a b c : Option (List ℕ)) (p q r : ℕ) (now xs : List ℕ) (left size : ℕ) → Adding before place n a b p q now left → size ≤ left → length xs ≡ size
    → IfSome b (λ bytes. TakesInto xs bytes c (Ok tt)) → r ≡ moved q size → Adding before place n a c p r (now ++ xs) (left - size)
unfolding Adding
adding_more before place n None b c p q r now xs left size h le len got eq = tt
adding_more before place n (Some bytes) None c p q r now xs left size h le len got eq = absurd cc
adding_more before place n (Some bytes) (Some mid) None p q r now xs left size h le len got eq = absurd got
adding_more before place n (Some bytes) (Some mid) (Some rest) p q r now xs left size h le len got eq =
    let same : h.0 ≡ mid = some_is h.0 mid (sym h.1) in
    let sum : left ≡ size + (left - size) = omega (arith, le) in
    let step = split_at place q size (left - size) now xs rest len in
    let whole : added_at now place (size + (left - size)) (spot q (xs ++ rest)) ≡ added_at now place left (spot q h.0) = ap (λ (z : List ℕ). added_at now place (size + (left - size)) (spot q z)) (sym got ∙ sym same) ∙ ap (λ (z : ℕ). added_at now place z (spot q h.0)) (sym sum) in
    (rest, refl, ap (λ (z : ℕ). added_at (now ++ xs) place (left - size) (spot z rest)) eq ∙ step ∙ whole ∙ h.2)

pub adding_ended : {X : Type 0} (see : X → List ℕ) (before : List ℕ) (place n : ℕ) (a b c : Option (List ℕ)) (p q r had : ℕ) (now xs : List ℕ) (left size : ℕ) → Adding before place n a b p q now left → size ≤ left
    → IfSome b (λ bytes. TakesInto xs bytes c (Err (took.Ended had))) → length xs ≤ size → ReadsAs {X = X} see a c p r (Err (Refused place Truncated)) (added_at before place n)
unfolding Adding
adding_ended see before place n None b c p q r had now xs left size h le got up = tt
adding_ended see before place n (Some bytes) None c p q r had now xs left size h le got up = absurd cc
adding_ended see before place n (Some bytes) (Some mid) c p q r had now xs left size h le got up =
    let same : h.0 ≡ mid = some_is h.0 mid (sym h.1) in
    let few : length h.0 < left = omega (arith, ap length same, got.0, got.1, le, up) in
    sym h.2 ∙ rw (exact_short place q left h.0 few) refl

pub adding_done : {X : Type 0} (see : X → List ℕ) (x : X) (before : List ℕ) (place n : ℕ) (a b : Option (List ℕ)) (p q : ℕ) (now : List ℕ) (left : ℕ) → Adding before place n a b p q now left → left ≡ 0 → q < 2 ^ 64 → see x ≡ now → ReadsAs {X = X} see a b p q (Ok x) (added_at before place n)
unfolding Adding
adding_done see x before place n None b p q now left h zero_left lt is = tt
adding_done see x before place n (Some bytes) b p q now left h zero_left lt is =
    let none = exact_again place q [] h.0 0 refl in
    let stays : moved q 0 ≡ q = omega (arith, lt) in
    (h.0, h.1, sym h.2 ∙ rw (zero_left, none, stays, append-nil now, is) refl)

-- what was added so far
pub added_more : (old now xs : List ℕ) (count left size : ℕ) → ((more : List ℕ) × (now ≡ old ++ more) × (length more + left ≡ count)) → length xs ≡ size → size ≤ left → (more : List ℕ) × (now ++ xs ≡ old ++ more) × (length more + (left - size) ≡ count)
added_more old now xs count left size (more, is, sum) len le = (more ++ xs, ap (λ (z : List ℕ). z ++ xs) is ∙ append_assoc old more xs, omega (arith, length-append more xs, sum, len, le))
