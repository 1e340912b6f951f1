-- Bytes are all of one value's spelling, or none's for one cause: one of the two.
use Rattle.std.proofs.Common.{◌≡◌, ◌⊎◌, inl, inr, ℕ, ◌<◌, List, [], ◌∷◌, ◌++◌, append-nil, length, length-append, refl, sym, ap, ◌∙◌, subst, arith, codes}
use Rattle.tl_schema.specs.Types.{Shape}
use Rattle.tl_schema.specs.Schemas.{Declared}
use Rattle.tl_types.specs.Values.{ValueView}
use Rattle.tl_types.specs.Exactly.{BeginsWith, ExactlyOne}
use Rattle.tl_types.specs.declared.value.TheConstants.{MAX_LEVELS}
use Rattle.schema_files.specs.Lines.{cause_text}
use Rattle.call_commands.specs.CallReports.{IsWhole, NoWhole, refused, trailing}

module _ (schema : Declared) (T : Shape) (b : List ℕ) (one : ExactlyOne schema MAX_LEVELS T b) where
  begins : (v : ValueView) (x rest : List ℕ) → b ≡ x ++ rest → IsWhole schema T x v → BeginsWith schema MAX_LEVELS T b v x
  begins v x rest is whole = (rest, is, whole.0, whole.1)

  all : (v : ValueView) → IsWhole schema T b v → BeginsWith schema MAX_LEVELS T b v b
  all v whole = begins v b [] (sym (append-nil b)) whole

  pub one_whole : (v w : ValueView) → IsWhole schema T b v → IsWhole schema T b w → v ≡ w
  one_whole v w whole also = (one.one_value v w b b (all v whole) (all w also)).0

  longer : (x rest : List ℕ) → 0 < length rest → b ≡ x ++ rest → b ≡ x → ⊥
  longer x rest some is same = let lengths = ap length (sym same ∙ is) in omega (arith, some, lengths, length-append x rest)

  pub never_whole : (v : ValueView) (p : ℕ) (why : List ℕ) → IsWhole schema T b v → NoWhole schema T b p why → ⊥
  never_whole v p why whole (refused cause r is) = one.never_both v b p cause (all v whole) r
  never_whole v p why whole (trailing w x rest is some also at text) = longer x rest some is (one.one_value v w b x (all v whole) (begins w x rest is also)).1

  pub one_fault : (p q : ℕ) (why more : List ℕ) → NoWhole schema T b p why → NoWhole schema T b q more → (p ≡ q) × (why ≡ more)
  one_fault p q why more (refused c r is) (refused d s at) = let same = one.one_fault p q c d r s in (same.0, is ∙ ap cause_text same.1 ∙ sym at)
  one_fault p q why more (refused c r is) (trailing w y rest split some also at text) = absurd (one.never_both w y p c (begins w y rest split also) r)
  one_fault p q why more (trailing v x rest split some whole at text) (refused d s is) = absurd (one.never_both v x q d (begins v x rest split whole) s)
  one_fault p q why more (trailing v x rest split some whole at text) (trailing w y left begin more_left also here said) =
      let same : x ≡ y = (one.one_value v w x y (begins v x rest split whole) (begins w y left begin also)).1 in
      (at ∙ ap length same ∙ sym here, text ∙ sym said)

  ends : (v : ValueView) (x rest : List ℕ) → b ≡ x ++ rest → IsWhole schema T x v → ((w : ValueView) × IsWhole schema T b w) ⊎ ((p : ℕ) × (why : List ℕ) × NoWhole schema T b p why)
  ends v x [] is whole = inl (v, subst (λ (z : List ℕ). IsWhole schema T z v) (sym (is ∙ append-nil x)) whole)
  ends v x (y ∷ ys) is whole = inr (length x, codes "Trailing", trailing v x (y ∷ ys) is (omega arith) whole refl refl)

  pub whole_or_fault : ((v : ValueView) × IsWhole schema T b v) ⊎ ((p : ℕ) × (why : List ℕ) × NoWhole schema T b p why)
  whole_or_fault = elim one.either [
    | inl (v, x, (rest, is, spells, deep)) ↦ ends v x rest is (spells, deep)
    | inr (at, cause, r) ↦ inr (at, cause_text cause, refused cause r refl)
  ]
