-- Numbers in words: the relation and the function of them.
use Rattle.std.proofs.Common.{◌≡◌, ◌∙◌, ◌⊎◌, ℕ, List, [], ◌∷◌, Bool, true, false, ◌&&◌, Option, Some, None, refl, sym, ap, subst, arith, inl, inr, true≢false}
use Rattle.std.specs.Prelude.{◌↔◌}
use Rattle.std.specs.List.{All}
use Rattle.std.proofs.lemmas.Bool.{leb-true, le-leb, cases_eq}
use Rattle.std.proofs.lemmas.List.Elements.{All-nil, All-cons, All-head, All-tail}
use Rattle.commands.specs.declared.number.Range.{Range}
use Rattle.commands.specs.Numbers.{IsDigit, IsNumberWord, FindsNumber, number_from, are_digits, is_number, number_of}
use Rattle.commands.specs.Requests.{IsOperand}
use Rattle.commands.proofs.Decided.{Decided}

pub both : (a b : Bool) → (a && b) ≡ true → (a ≡ true) × (b ≡ true)
both true b e = (refl, e)
both false b e = absurd (true≢false (sym e))

pub both_true : (a b : Bool) → a ≡ true → b ≡ true → (a && b) ≡ true
both_true true b e f = f
both_true false b e f = absurd (true≢false (sym e))

digits_are : (bs : List ℕ) → are_digits bs ≡ true → All IsDigit bs
digits_are [] e = All-nil IsDigit
digits_are (b ∷ bs) e =
    let parts = both _ _ e in
    let within = both _ _ parts.0 in
    All-cons IsDigit b bs (leb-true 48 b within.0, leb-true b 57 within.1) (digits_are bs parts.1)

are_all : (bs : List ℕ) → All IsDigit bs → are_digits bs ≡ true
are_all [] h = refl
are_all (b ∷ bs) h = let d = All-head IsDigit b bs h in both_true _ _ (both_true _ _ (le-leb 48 b d.0) (le-leb b 57 d.1)) (are_all bs (All-tail IsDigit b bs h))

pub is_number_word : (range : Range) (word : List ℕ) → (is_number range word ≡ true) ↔ IsNumberWord range word (number_from 0 word)
is_number_word range word = (
  λ e. (
      let front = both _ _ e in
      let long = both _ _ front.0 in
      let length = both _ _ long.0 in
      let within = both _ _ front.1 in
      record { some = leb-true _ _ length.0; few = leb-true _ _ length.1; digits = digits_are word long.1; value = refl; least = leb-true _ _ within.0; most = leb-true _ _ within.1 }),
  λ h. both_true _ _ (both_true _ _ (both_true _ _ (le-leb _ _ h.some) (le-leb _ _ h.few)) (are_all word h.digits)) (both_true _ _ (le-leb _ _ h.least) (le-leb _ _ h.most)),
)

-- a word that is no number of the range
pub no_number_word : (range : Range) (word other : List ℕ) (n : ℕ) → is_number range word ≡ false → word ≡ other → IsNumberWord range other n → ⊥
no_number_word range word other n e same h =
    let own : IsNumberWord range word n = subst (λ (w : List ℕ). IsNumberWord range w n) (sym same) h in
    true≢false (sym ((is_number_word range word).1 (subst (IsNumberWord range word) own.value own)) ∙ e)

-- what is found is what the function gives
pub found_number : (range : Range) (word : List ℕ) (r : Option ℕ) → FindsNumber range word r → (b : Bool) → is_number range word ≡ b → r ≡ number_of range word
found_number range word (Some n) h true e = rw e (ap Some h.value)
found_number range word (Some n) h false e = absurd (no_number_word range word word n e refl h)
found_number range word None h true e = absurd (h (number_from 0 word) ((is_number_word range word).0 e))
found_number range word None h false e = rw e refl

pub number_operand : (range : Range) (word : List ℕ) (n : ℕ) → IsNumberWord range word n → IsOperand word
number_operand range [] n h = let e = h.some in omega (arith, e)
number_operand range (b ∷ bs) n h = λ e. (let d = All-head IsDigit b bs h.digits in omega (arith, d.0, e))

-- ---- decided

decided_number : (range : Range) (word : List ℕ) (n : ℕ) → (n ≡ number_from 0 word) ⊎ ((n ≡ number_from 0 word) → ⊥) → (b : Bool) → is_number range word ≡ b → Decided (IsNumberWord range word n)
decided_number range word n (inl is) true e = inl (subst (IsNumberWord range word) (sym is) ((is_number_word range word).0 e))
decided_number range word n (inr not) b e = inr (λ h. not h.value)
decided_number range word n (inl is) false e = inr (λ h. no_number_word range word word n e refl h)

pub number_decided : (range : Range) (word : List ℕ) (n : ℕ) → Decided (IsNumberWord range word n)
number_decided range word n = decided_number range word n (cases_eq n (number_from 0 word)) (is_number range word) refl
