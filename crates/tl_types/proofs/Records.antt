-- A number of a declaration, and what comes after it: how it is read, and where it is refused.
use Rattle.std.proofs.Common.{◌≡◌, ℕ, ◌<◌, ◌^◌, List, ◌++◌, length, Option, Some, None, Ok, Err, refl, ap, ◌∙◌, arith}
use Rattle.std.proofs.lemmas.Bool.{ne_eqb}
use Rattle.tl_numbers.specs.Numbers.{word}
use Rattle.tl_numbers.specs.declared.numbers.TheConstants.{PACKED}
use Rattle.tl_schema.specs.Schemas.{Slot, Declaration}
use Rattle.tl_types.specs.declared.cause.Cause.{Cause}
use Rattle.tl_types.specs.declared.cause.Cause.TheVariants.{Truncated, Packed, UnknownNumber}
use Rattle.tl_types.specs.Values.{ValueView, ValueViews, no_values, value, values_of, list_of}
use Rattle.tl_types.specs.Refusal.{NumberRefused}
use Rattle.tl_types.specs.Refusal as refused
use Rattle.tl_types.specs.Offsets.{moved}
use Rattle.tl_types.specs.inner.Reading.{Spot, spot, Fault, Read, by_number_at, numbered_at, record_at, fields_in, wrong_number}
use Rattle.tl_types.proofs.Numbers.{fault_is, word_again, word_short}

pub list_again : (vs : ValueViews) → values_of (list_of vs) ≡ vs
list_again no_values = refl
list_again (value v vs) = ap (value v) (list_again vs)

module _ (f : List Slot → Spot → Read (List ValueView)) (make : ℕ → ValueViews → ValueView) (ds : List Declaration) (find : ℕ → Option ℕ) where
  pub number_step : (p w i : ℕ) (rest : List ℕ) (ks : List Slot) (vs : ValueViews) (r : Spot) → w < 2 ^ 32 → find w ≡ Some i → fields_in ds i ≡ ks → f ks (spot (moved p 4) rest) ≡ Ok (list_of vs, r) → by_number_at f make ds find (spot p (word w ++ rest)) ≡ Ok (make i vs, r)
  unfolding by_number_at numbered_at record_at
  number_step p w i rest ks vs r lt some slots fields = rw (word_again w p rest lt, some, slots, fields, list_again vs) refl

  pub number_fault : (p w i : ℕ) (rest : List ℕ) (ks : List Slot) (e : Fault) → w < 2 ^ 32 → find w ≡ Some i → fields_in ds i ≡ ks → f ks (spot (moved p 4) rest) ≡ Err e → by_number_at f make ds find (spot p (word w ++ rest)) ≡ Err e
  unfolding by_number_at numbered_at record_at
  number_fault p w i rest ks e lt some slots fields = rw (word_again w p rest lt, some, slots, fields) refl

  number_short : (p : ℕ) (b : List ℕ) → length b < 4 → by_number_at f make ds find (spot p b) ≡ Err (p, Truncated)
  unfolding by_number_at
  number_short p b lt = rw (word_short p b lt) refl

  number_none : (p w : ℕ) (rest : List ℕ) → w < 2 ^ 32 → find w ≡ None → by_number_at f make ds find (spot p (word w ++ rest)) ≡ Err (p, wrong_number w)
  unfolding by_number_at numbered_at
  number_none p w rest lt none = rw (word_again w p rest lt, none) refl

  -- a word that is none of the numbers that are known
  pub number_refused : (Known : ℕ → Type 0) (b : List ℕ) (at : ℕ) (cause : Cause) (p : ℕ) → p < 2 ^ 64 → find PACKED ≡ None → ((w : ℕ) → (Known w → ⊥) → find w ≡ None) → NumberRefused Known b at cause → by_number_at f make ds find (spot p b) ≡ Err (moved p at, cause)
  number_refused Known b at cause p lt packed unknown (refused.short few here why) = number_short p b few ∙ ap Err (fault_is p at Truncated cause lt here why)
  number_refused Known b at cause p lt packed unknown (refused.packed rest is here why) =
      ap (λ (z : List ℕ). by_number_at f make ds find (spot p z)) is ∙ number_none p PACKED rest (omega arith) packed ∙ ap Err (fault_is p at Packed cause lt here why)
  number_refused Known b at cause p lt packed unknown (refused.unknown w rest fits is other none here why) =
      let e : wrong_number w ≡ UnknownNumber w = rw (ne_eqb w PACKED other) refl in
      ap (λ (z : List ℕ). by_number_at f make ds find (spot p z)) is ∙ number_none p w rest fits (unknown w none) ∙ ap (λ (c : Cause). Err (p, c)) e ∙ ap Err (fault_is p at (UnknownNumber w) cause lt here why)
