-- Spellings that are appended one after the other.
use Rattle.std.proofs.Common.{◌≡◌, List, [], ◌++◌, append_assoc, append-nil, Result, Ok, Err, sym, ap, ◌∙◌, ℕ}
use Rattle.std.specs.Prelude.{OnOk}

pub on_ok : {T E P Q : Type 0} (r : Result T E) → (P → Q) → OnOk r P → OnOk r Q
on_ok (Ok x) f p = f p
on_ok (Err e) f p = p

pub joined : (old mid prefix rest b new : List ℕ) → mid ≡ old ++ prefix → b ≡ prefix ++ rest → new ≡ mid ++ rest → new ≡ old ++ b
joined old mid prefix rest b new m s n = n ∙ ap (λ (z : List ℕ). z ++ rest) m ∙ append_assoc old prefix rest ∙ ap (λ (z : List ℕ). old ++ z) (sym s)

-- each b that spells the whole begins with what was appended, and after that spells the rest
abbrev pub PutsFirst : (List ℕ → Type 0) → (List ℕ → Type 0) → List ℕ → List ℕ → Type 0
PutsFirst Whole Rest old new = (b : List ℕ) → Whole b → (x : List ℕ) × (y : List ℕ) × (b ≡ x ++ y) × (new ≡ old ++ x) × Rest y

pub puts_then : (Whole Rest Last : List ℕ → Type 0) (old mid new : List ℕ) → PutsFirst Whole Rest old mid → PutsFirst Rest Last mid new → PutsFirst Whole Last old new
puts_then Whole Rest Last old mid new first next = λ b whole.
    let s = first b whole in
    let r = next s.1 s.4 in (
      s.0 ++ r.0,
      r.1,
      s.2 ∙ ap (λ (z : List ℕ). s.0 ++ z) r.2 ∙ sym (append_assoc s.0 r.0 r.1),
      r.3 ∙ ap (λ (z : List ℕ). z ++ r.0) s.3 ∙ append_assoc old s.0 r.0,
      r.4,
    )

pub puts_all : (Whole Rest : List ℕ → Type 0) (old new : List ℕ) → PutsFirst Whole Rest old new → ((y : List ℕ) → Rest y → y ≡ []) → (b : List ℕ) → Whole b → new ≡ old ++ b
puts_all Whole Rest old new first none b whole =
    let s = first b whole in
    s.3 ∙ ap (λ (z : List ℕ). old ++ z) (sym (s.2 ∙ ap (λ (z : List ℕ). s.0 ++ z) (none s.1 s.4) ∙ append-nil s.0))
