-- Tests of numbers, and what an insertion tells.
use Rattle.std.proofs.Common.{◌≡◌, ℕ, nat_eq, Bool, true, false, not, refl, sym, ◌∙◌, true≢false}
use Rattle.std.proofs.lemmas.Bool.Decides.{Decides-eqb}

pub same_number : (m n : ℕ) → nat_eq m n ≡ true → m ≡ n
same_number m n = (Decides-eqb m n).0

pub number_same : (m n : ℕ) → m ≡ n → nat_eq m n ≡ true
number_same m n = (Decides-eqb m n).1

pub number_other : (m n : ℕ) → (m ≡ n → ⊥) → nat_eq m n ≡ false
number_other m n other = by (nat_eq m n) refl
  where
    by : (b : Bool) → nat_eq m n ≡ b → nat_eq m n ≡ false
    by true h = absurd (other (same_number m n h))
    by false h = h

pub was_there : (there added : Bool) → added ≡ not there → added ≡ false → there ≡ true
was_there true added told denied = refl
was_there false added told denied = absurd (true≢false (sym told ∙ denied))

pub was_new : (there added : Bool) → added ≡ not there → added ≡ true → there ≡ false
was_new true added told granted = absurd (true≢false (sym granted ∙ told))
was_new false added told granted = refl
