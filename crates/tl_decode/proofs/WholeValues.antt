-- The one value that bytes spell, from what decoding gives of them.
use Rattle.std.proofs.Common.{◌≡◌, ℕ, ◌<◌, ◌≤◌, List, [], ◌++◌, length, drop, append-nil, Some, Result, Ok, Err, sym, ap, ◌∙◌, subst, inl, inr}
use Rattle.tl_numbers.specs.Bytes.{AreBytes}
use Rattle.tl_schema.specs.Types.{Shape}
use Rattle.tl_schema.specs.Schemas.{Declared}
use Rattle.tl_schema.specs.CheckedPrograms.{IsSchema}
use Rattle.tl_schema.specs.Formed.{IsFormed}
use Rattle.tl_types.specs.Values.{ValueView, depth}
use Rattle.tl_types.specs.Seen.{view}
use Rattle.tl_types.specs.Spelling.{Spells}
use Rattle.tl_types.specs.Refusal.{Refused}
use Rattle.tl_types.specs.Offsets.{moved}
use Rattle.tl_types.specs.declared.cause.Cause.{Cause}
use Rattle.tl_types.specs.declared.value.Value.{Value}
use Rattle.tl_types.specs.declared.value.TheConstants.{MAX_LEVELS}
use Rattle.tl_types.proofs.Exactly.{exactly_one}
use Rattle.tl_decode.specs.Decoding.{GivesValue, GivesFault}
use Rattle.tl_decode.specs.Wholes.{ReadsWhole, whole_fault}
use Rattle.tl_decode.specs.declared.fault.DecodeFault.{DecodeFault}
use Rattle.tl_decode.specs.declared.fault.DecodeFault.TheVariants as decode
use Rattle.tl_decode.specs.declared.whole.WholeFault.TheVariants as whole

some_is : {A : Type 0} (x y : A) → Some x ≡ Some y → x ≡ y
some_is x y e = cc

-- what is left before any byte was taken
pub all_left : (at : ℕ) (given bytes : List ℕ) → at ≡ 0 → given ≡ bytes → drop at given ≡ bytes
all_left at given bytes start same = ap (λ (n : ℕ). drop n given) start ∙ same

module _ (schema : Declared) (good : IsSchema schema) (T : Shape) (formed : IsFormed schema T) (bytes : List ℕ) (are : AreBytes bytes) where
  -- what is spelled is given, and what is refused is refused
  abbrev Gives : Result Value DecodeFault → List ℕ → ℕ → Type 0
  Gives r left q = (v : ValueView) (x rest : List ℕ) → bytes ≡ x ++ rest → Spells schema T v x → depth v ≤ MAX_LEVELS → GivesValue r (Some left) 0 q v x rest

  abbrev Refuses : Result Value DecodeFault → Type 0
  Refuses r = (offset : ℕ) (cause : Cause) → Refused schema MAX_LEVELS T bytes offset cause → GivesFault r (moved 0 offset) cause

  pub fails : (left : List ℕ) (q : ℕ) (e : DecodeFault) → Gives (Err e) left q → Refuses (Err e) → ReadsWhole schema T bytes (Err (whole_fault e))
  fails left q (decode.Refused at why) given refused = elim (exactly_one schema good MAX_LEVELS T bytes formed are).either [
    | inl (v, x, (rest, is, spells, deep)) ↦ absurd (given v x rest is spells deep)
    | inr (p, cause, r) ↦ (let same = refused p cause r in (p, subst (Refused schema MAX_LEVELS T bytes p) (sym same.1) r, same.0))
  ]
  fails left q decode.ReadFault given refused = tt
  fails left q decode.Memory given refused = tt

  -- a value whose spelling begins the bytes, and what is left after it
  record Begins (value : Value) (left : List ℕ) (q : ℕ) : Type 0 where
    x : List ℕ
    split : bytes ≡ x ++ left
    spells : Spells schema T (view value) x
    deep : depth (view value) ≤ MAX_LEVELS
    at : q ≡ moved 0 (length x)

  begins : (left : List ℕ) (q : ℕ) (value : Value) → Gives (Ok value) left q → Refuses (Ok value) → Begins value left q
  begins left q value given refused = elim (exactly_one schema good MAX_LEVELS T bytes formed are).either [
    | inl (v, x, (rest, is, spells, deep)) ↦ (let got = given v x rest is spells deep in record {
      x = x;
      split = is ∙ ap (λ (z : List ℕ). x ++ z) (sym (some_is _ _ got.1));
      spells = subst (λ (u : ValueView). Spells schema T u x) (sym got.0) spells;
      deep = subst (λ (u : ValueView). depth u ≤ MAX_LEVELS) (sym got.0) deep;
      at = got.2;
    })
    | inr (p, cause, r) ↦ absurd (refused p cause r)
  ]

  pub ends : (left : List ℕ) (q : ℕ) (value : Value) → Gives (Ok value) left q → Refuses (Ok value) → left ≡ [] → ReadsWhole schema T bytes (Ok value)
  ends left q value given refused none =
      let b = begins left q value given refused in
      let all : bytes ≡ b.x = b.split ∙ ap (λ (z : List ℕ). b.x ++ z) none ∙ append-nil b.x in
      (subst (Spells schema T (view value)) (sym all) b.spells, b.deep)

  pub goes_on : (left : List ℕ) (q : ℕ) (value : Value) → Gives (Ok value) left q → Refuses (Ok value) → 0 < length left → ReadsWhole schema T bytes (Err (whole.Trailing q))
  goes_on left q value given refused some = let b = begins left q value given refused in (view value, b.x, left, b.split, some, b.spells, b.deep, b.at)
