-- What bytes are refused for they are refused for as well where more bytes come, unless they were cut off.
use Rattle.std.proofs.Common.{◌≡◌, ℕ, zero, suc, List, [], ◌∷◌, ◌++◌, append_assoc, true, false, ap, ◌∙◌, arith, inl, inr}
use Rattle.std.specs.Prelude.{◌≢◌}
use Rattle.std.proofs.lemmas.List.{length-append}
use Rattle.tl_numbers.specs.Numbers.{word}
use Rattle.tl_numbers.specs.declared.numbers.TheConstants.{BOXED_VECTOR, PACKED}
use Rattle.tl_schema.specs.Closing.{closed, list_of_shapes}
use Rattle.tl_schema.specs.Schemas.{Slot, Declared}
use Rattle.tl_schema.specs.Types.{Shape}
use Rattle.tl_schema.specs.Types as type
use Rattle.tl_types.specs.Refusal.{TextRefused, NumberRefused, PartRefused, EachRefused, FieldsRefused, ListRefused, IsMemberNumber, IsFunctionNumber, Refused}
use Rattle.tl_types.specs.Refusal as kind
use Rattle.tl_types.specs.Values.{ValueView}
use Rattle.tl_types.specs.declared.cause.Cause.{Cause}
use Rattle.tl_types.specs.declared.cause.Cause.TheVariants.{Truncated}

module _ (schema : Declared) (more : List ℕ) (cause : Cause) (other : cause ≢ Truncated) where
  longer : (b x y : List ℕ) → b ≡ x ++ y → b ++ more ≡ x ++ (y ++ more)
  longer b x y is = ap (λ (l : List ℕ). l ++ more) is ∙ append_assoc x y more

  -- ---- items

  text_longer : (b : List ℕ) (at : ℕ) → TextRefused b at cause → TextRefused (b ++ more) at cause
  text_longer b at (kind.short few here why) = absurd (other why)
  text_longer b at (kind.long_string rest big is here why) = kind.long_string (rest ++ more) (omega (arith, big, length-append b more)) (ap (λ (l : List ℕ). l ++ more) is) here why
  text_longer b at (kind.loose_string n rest le is here why) = kind.loose_string n (rest ++ more) le (ap (λ (l : List ℕ). l ++ more) is) here why
  text_longer b at (kind.ended head rest n which big is few here why) = absurd (other why)
  text_longer b at (kind.padding head s pad rest which is width wrong here why) = kind.padding head s pad (rest ++ more) which (longer b (head ++ s ++ pad) rest is) width wrong here why

  number_longer : (Known : ℕ → Type 0) (b : List ℕ) (at : ℕ) → NumberRefused Known b at cause → NumberRefused Known (b ++ more) at cause
  number_longer Known b at (kind.short few here why) = absurd (other why)
  number_longer Known b at (kind.packed rest is here why) = kind.packed (rest ++ more) (longer b (word PACKED) rest is) here why
  number_longer Known b at (kind.unknown w rest fits is packed none here why) = kind.unknown w (rest ++ more) fits (longer b (word w) rest is) packed none here why

  -- ---- parts

  module _ (n : ℕ) (R : PartRefused) (part : (T : Shape) (b : List ℕ) (at : ℕ) → R T b at cause → R T (b ++ more) at cause) where
    each_longer : (T : Shape) (k : ℕ) (b : List ℕ) (at : ℕ) → EachRefused schema n R T k b at cause → EachRefused schema n R T k (b ++ more) at cause
    each_longer T zero b at r = absurd r
    each_longer T (suc k) b at (inl r) = inl (part T b at r)
    each_longer T (suc k) b at (inr (v, x, y, q, spells, deep, is, here, r)) = inr (v, x, y ++ more, q, spells, deep, longer b x y is, here, each_longer T k y q r)

    fields_longer : (args : List Shape) (before : List ValueView) (fs : List Slot) (b : List ℕ) (at : ℕ) → FieldsRefused schema n R args before fs b at cause
        → FieldsRefused schema n R args before fs (b ++ more) at cause
    fields_longer args before [] b at r = absurd r
    fields_longer args before (f ∷ fs) b at (inl (set, r)) = inl (set, part (closed args f.of) b at r)
    fields_longer args before (f ∷ fs) b at (inr (v, x, y, q, spells, deep, is, here, r)) =
        inr (v, x, y ++ more, q, spells, deep, longer b x y is, here, fields_longer args (before ++ v ∷ []) fs y q r)

    list_longer : (T : Shape) (b : List ℕ) (at : ℕ) → ListRefused schema n R T b at cause → ListRefused schema n R T (b ++ more) at cause
    list_longer T b at (kind.short few here why) = absurd (other why)
    list_longer T b at (kind.many w rest fits many is here why) = kind.many w (rest ++ more) fits many (longer b (word w) rest is) here why
    list_longer T b at (kind.each k rest q few is here r) = kind.each k (rest ++ more) q few (longer b (word k) rest is) here (each_longer T k rest q r)

  -- ---- values

  pub refused_longer : (n : ℕ) (T : Shape) (b : List ℕ) (at : ℕ) → Refused schema n T b at cause → Refused schema n T (b ++ more) at cause
  refused_longer n type.int b at r = absurd (other r.why)
  refused_longer n type.long b at r = absurd (other r.why)
  refused_longer n type.nat b at r = absurd (other r.why)
  refused_longer n (type.opaque k) b at r = absurd (other r.why)
  refused_longer n type.str b at r = text_longer b at r
  refused_longer n type.raw b at r = text_longer b at r
  refused_longer n type.flag b at r = absurd r
  refused_longer n (type.var i) b at r = absurd r
  refused_longer zero (type.vector w T) b at r = r
  refused_longer zero (type.boxed h args) b at r = r
  refused_longer zero (type.bare i args) b at r = r
  refused_longer zero type.call b at r = r
  refused_longer (suc n) (type.vector true T) b at (inl r) = inl (number_longer (λ w. w ≡ BOXED_VECTOR) b at r)
  refused_longer (suc n) (type.vector true T) b at (inr (rest, q, is, here, r)) =
      inr (rest ++ more, q, longer b (word BOXED_VECTOR) rest is, here, list_longer n (Refused schema n) (refused_longer n) T rest q r)
  refused_longer (suc n) (type.vector false T) b at r = list_longer n (Refused schema n) (refused_longer n) T b at r
  refused_longer (suc n) (type.boxed h args) b at (inl r) = inl (number_longer (IsMemberNumber schema h) b at r)
  refused_longer (suc n) (type.boxed h args) b at (inr (i, d, rest, q, m, is, here, r)) =
      inr (i, d, rest ++ more, q, m, longer b (word d.number) rest is, here, fields_longer n (Refused schema n) (refused_longer n) (list_of_shapes args) [] d.fields rest q r)
  refused_longer (suc n) (type.bare i args) b at (d, there, r) = (d, there, fields_longer n (Refused schema n) (refused_longer n) (list_of_shapes args) [] d.fields b at r)
  refused_longer (suc n) type.call b at (inl r) = inl (number_longer (IsFunctionNumber schema) b at r)
  refused_longer (suc n) type.call b at (inr (i, d, rest, q, m, is, here, r)) =
      inr (i, d, rest ++ more, q, m, longer b (word d.number) rest is, here, fields_longer n (Refused schema n) (refused_longer n) [] [] d.fields rest q r)
