-- Lists: how they are read, and where they are refused before their elements.
use Rattle.std.proofs.Common.{◌≡◌, ◌≢◌, ℕ, ◌+◌, ◌≤◌, ◌<◌, ◌^◌, List, [], ◌++◌, length, Ok, Err, refl, ap, ◌∙◌, arith, lt-ltb, le-ltb, Bool, true, false}
use Rattle.std.proofs.lemmas.Bool.{ne_eqb}
use Rattle.tl_numbers.specs.Numbers.{word}
use Rattle.tl_numbers.specs.declared.numbers.TheConstants.{BOXED_VECTOR, PACKED}
use Rattle.tl_schema.specs.Types.{Shape}
use Rattle.tl_schema.specs.Types as type
use Rattle.tl_schema.specs.Schemas.{Declaration}
use Rattle.tl_types.specs.declared.cause.Cause.{Cause}
use Rattle.tl_types.specs.declared.cause.Cause.TheVariants.{Truncated, Packed, UnknownNumber, BadCount}
use Rattle.tl_types.specs.Values.{ValueViews, list_of}
use Rattle.tl_types.specs.Values as view
use Rattle.tl_types.specs.Spelling.{vector_prefix}
use Rattle.tl_types.specs.Refusal.{NumberRefused}
use Rattle.tl_types.specs.Refusal as refused
use Rattle.tl_types.specs.Offsets.{moved}
use Rattle.tl_types.specs.inner.Reading.{Spot, spot, Fault, Reader, deep_at, each_at, list_at, elements_at, long_list_at, wide_at, wrong_number}
use Rattle.tl_types.proofs.Numbers.{fault_is, word_again, word_short}
use Rattle.tl_types.proofs.Records.{list_again}

-- ---- read

list_step : (f : Reader) (p k : ℕ) (rest : List ℕ) (vs : ValueViews) (r : Spot) → k < 2 ^ 31 → each_at f k [] (spot (moved p 4) rest) ≡ Ok (list_of vs, r) → list_at f (spot p (word k ++ rest)) ≡ Ok (view.list vs, r)
unfolding list_at elements_at
list_step f p k rest vs r few each = rw (word_again k p rest (omega (arith, few)), lt-ltb k (2 ^ 31) few, each, list_again vs) refl

pub wide_step : (f : Reader) (p : ℕ) (rest : List ℕ) → long_list_at f (spot p (word BOXED_VECTOR ++ rest)) ≡ list_at f (spot (moved p 4) rest)
unfolding long_list_at wide_at
wide_step f p rest = rw (word_again BOXED_VECTOR p rest (omega arith)) refl

-- a list after its prefix
pub list_whole : (ds : List Declaration) (f : Shape → Reader) (is_boxed : Bool) (item : Shape) (p k : ℕ) (more : List ℕ) (vs : ValueViews) (r : Spot) → p < 2 ^ 64 → k < 2 ^ 31 → each_at (f item) k [] (spot (moved p (length (vector_prefix is_boxed) + 4)) more) ≡ Ok (list_of vs, r) → deep_at ds f (type.vector is_boxed item) (spot p (vector_prefix is_boxed ++ (word k ++ more))) ≡ Ok (view.list vs, r)
unfolding deep_at
list_whole ds f true item p k more vs r lt few each =
    let e : moved (moved p 4) 4 ≡ moved p 8 = omega arith in
    wide_step (f item) p (word k ++ more) ∙ list_step (f item) (moved p 4) k more vs r few (rw e each)
list_whole ds f false item p k more vs r lt few each = list_step (f item) p k more vs r few each

-- ---- refused

pub list_short : (f : Reader) (p : ℕ) (b : List ℕ) → length b < 4 → list_at f (spot p b) ≡ Err (p, Truncated)
unfolding list_at
list_short f p b few = rw (word_short p b few) refl

pub list_many : (f : Reader) (p k : ℕ) (rest : List ℕ) → k < 2 ^ 32 → 2 ^ 31 ≤ k → list_at f (spot p (word k ++ rest)) ≡ Err (p, BadCount k)
unfolding list_at elements_at
list_many f p k rest lt many = rw (word_again k p rest lt, le-ltb k (2 ^ 31) many) refl

pub list_fault : (f : Reader) (p k : ℕ) (rest : List ℕ) (e : Fault) → k < 2 ^ 31 → each_at f k [] (spot (moved p 4) rest) ≡ Err e → list_at f (spot p (word k ++ rest)) ≡ Err e
unfolding list_at elements_at
list_fault f p k rest e few each = rw (word_again k p rest (omega (arith, few)), lt-ltb k (2 ^ 31) few, each) refl

wide_short : (f : Reader) (p : ℕ) (b : List ℕ) → length b < 4 → long_list_at f (spot p b) ≡ Err (p, Truncated)
unfolding long_list_at
wide_short f p b few = rw (word_short p b few) refl

wide_other : (f : Reader) (p w : ℕ) (rest : List ℕ) → w < 2 ^ 32 → w ≢ BOXED_VECTOR → long_list_at f (spot p (word w ++ rest)) ≡ Err (p, wrong_number w)
unfolding long_list_at wide_at
wide_other f p w rest lt other = rw (word_again w p rest lt, ne_eqb w BOXED_VECTOR other) refl

pub wide_refused : (f : Reader) (b : List ℕ) (at : ℕ) (cause : Cause) (p : ℕ) → p < 2 ^ 64 → NumberRefused (λ w. w ≡ BOXED_VECTOR) b at cause → long_list_at f (spot p b) ≡ Err (moved p at, cause)
wide_refused f b at cause p lt (refused.short few here why) = wide_short f p b few ∙ ap Err (fault_is p at Truncated cause lt here why)
wide_refused f b at cause p lt (refused.packed rest is here why) =
    ap (λ (z : List ℕ). long_list_at f (spot p z)) is ∙ wide_other f p PACKED rest (omega arith) (λ e. absurd (omega (arith, e))) ∙ ap Err (fault_is p at Packed cause lt here why)
wide_refused f b at cause p lt (refused.unknown w rest fits is other none here why) =
    let e : wrong_number w ≡ UnknownNumber w = rw (ne_eqb w PACKED other) refl in
    ap (λ (z : List ℕ). long_list_at f (spot p z)) is ∙ wide_other f p w rest fits none ∙ ap (λ (c : Cause). Err (p, c)) e ∙ ap Err (fault_is p at (UnknownNumber w) cause lt here why)
