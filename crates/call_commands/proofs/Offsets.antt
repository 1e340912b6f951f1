-- What is refused lies within the bytes.
use Rattle.std.proofs.Common.{◌≡◌, ℕ, zero, suc, ◌+◌, ◌≤◌, List, [], ◌∷◌, ◌++◌, length, length-append, true, false, ap, arith, inl, inr}
use Rattle.tl_numbers.specs.Numbers.{word}
use Rattle.tl_numbers.specs.declared.numbers.TheConstants.{BOXED_VECTOR}
use Rattle.tl_numbers.proofs.Spelled.{words}
use Rattle.tl_schema.specs.Types.{Shape}
use Rattle.tl_schema.specs.Types as type
use Rattle.tl_schema.specs.Closing.{closed, list_of_shapes}
use Rattle.tl_schema.specs.Schemas.{Slot, Declared}
use Rattle.tl_types.specs.Values.{ValueView}
use Rattle.tl_types.specs.Refusal.{TextRefused, NumberRefused, PartRefused, EachRefused, FieldsRefused, ListRefused, Refused}
use Rattle.tl_types.specs.Refusal as kind
use Rattle.tl_types.specs.declared.cause.Cause.{Cause}

-- at the start
at_start : (b : List ℕ) (at : ℕ) → at ≡ 0 → at ≤ length b
at_start b at here = omega (arith, here)

-- after a part of the bytes
after_part : (b x y : List ℕ) (at q : ℕ) → b ≡ x ++ y → at ≡ length x + q → q ≤ length y → at ≤ length b
after_part b x y at q is there inside = omega (arith, ap length is, length-append x y, there, inside)

-- after a number
after_number : (b rest : List ℕ) (w at q : ℕ) → b ≡ word w ++ rest → at ≡ 4 + q → q ≤ length rest → at ≤ length b
after_number b rest w at q is there inside = omega (arith, ap length is, length-append (word w) rest, words.long w, there, inside)

text_within : (b : List ℕ) (at : ℕ) (cause : Cause) → TextRefused b at cause → at ≤ length b
text_within b at cause (kind.short few here why) = at_start b at here
text_within b at cause (kind.long_string rest big is here why) = at_start b at here
text_within b at cause (kind.loose_string n rest le is here why) = at_start b at here
text_within b at cause (kind.ended head rest n which big is few here why) = at_start b at here
text_within b at cause (kind.padding head s pad rest which is width other here why) = at_start b at here

number_within : (Known : ℕ → Type 0) (b : List ℕ) (at : ℕ) (cause : Cause) → NumberRefused Known b at cause → at ≤ length b
number_within Known b at cause (kind.short few here why) = at_start b at here
number_within Known b at cause (kind.packed rest is here why) = at_start b at here
number_within Known b at cause (kind.unknown w rest fits is other none here why) = at_start b at here

-- what is refused of each part lies within its bytes
module _ (schema : Declared) (n : ℕ) (R : PartRefused) (within : (T : Shape) (b : List ℕ) (at : ℕ) (cause : Cause) → R T b at cause → at ≤ length b) where
  each_within : (T : Shape) (k : ℕ) (b : List ℕ) (at : ℕ) (cause : Cause) → EachRefused schema n R T k b at cause → at ≤ length b
  each_within T zero b at cause none = absurd none
  each_within T (suc k) b at cause (inl r) = within T b at cause r
  each_within T (suc k) b at cause (inr (v, x, y, q, spells, deep, is, there, more)) = after_part b x y at q is there (each_within T k y q cause more)

  fields_within : (args : List Shape) (before : List ValueView) (fs : List Slot) (b : List ℕ) (at : ℕ) (cause : Cause) → FieldsRefused schema n R args before fs b at cause → at ≤ length b
  fields_within args before [] b at cause none = absurd none
  fields_within args before (f ∷ fs) b at cause (inl (stands, r)) = within (closed args f.of) b at cause r
  fields_within args before (f ∷ fs) b at cause (inr (v, x, y, q, spells, deep, is, there, more)) = after_part b x y at q is there (fields_within args (before ++ v ∷ []) fs y q cause more)

  list_within : (T : Shape) (b : List ℕ) (at : ℕ) (cause : Cause) → ListRefused schema n R T b at cause → at ≤ length b
  list_within T b at cause (kind.short few here why) = at_start b at here
  list_within T b at cause (kind.many w rest fits big is here why) = at_start b at here
  list_within T b at cause (kind.each k rest q few is there more) = after_number b rest k at q is there (each_within T k rest q cause more)

pub refused_within : (schema : Declared) (n : ℕ) (T : Shape) (b : List ℕ) (at : ℕ) (cause : Cause) → Refused schema n T b at cause → at ≤ length b
refused_within schema n type.int b at cause r = at_start b at r.here
refused_within schema n type.long b at cause r = at_start b at r.here
refused_within schema n type.nat b at cause r = at_start b at r.here
refused_within schema n (type.opaque k) b at cause r = at_start b at r.here
refused_within schema n type.str b at cause r = text_within b at cause r
refused_within schema n type.raw b at cause r = text_within b at cause r
refused_within schema n type.flag b at cause none = absurd none
refused_within schema n (type.var i) b at cause none = absurd none
refused_within schema zero (type.vector is_boxed T) b at cause r = at_start b at r.0
refused_within schema zero (type.boxed h args) b at cause r = at_start b at r.0
refused_within schema zero (type.bare i args) b at cause r = at_start b at r.0
refused_within schema zero type.call b at cause r = at_start b at r.0
refused_within schema (suc n) (type.vector true T) b at cause (inl r) = number_within _ b at cause r
refused_within schema (suc n) (type.vector true T) b at cause (inr (rest, q, is, there, more)) = after_number b rest BOXED_VECTOR at q is there (list_within schema n (Refused schema n) (refused_within schema n) T rest q cause more)
refused_within schema (suc n) (type.vector false T) b at cause r = list_within schema n (Refused schema n) (refused_within schema n) T b at cause r
refused_within schema (suc n) (type.boxed h args) b at cause (inl r) = number_within _ b at cause r
refused_within schema (suc n) (type.boxed h args) b at cause (inr (i, d, rest, q, is_member, is, there, more)) =
    after_number b rest d.number at q is there (fields_within schema n (Refused schema n) (refused_within schema n) (list_of_shapes args) [] d.fields rest q cause more)
refused_within schema (suc n) (type.bare i args) b at cause (d, at_i, more) = fields_within schema n (Refused schema n) (refused_within schema n) (list_of_shapes args) [] d.fields b at cause more
refused_within schema (suc n) type.call b at cause (inl r) = number_within _ b at cause r
refused_within schema (suc n) type.call b at cause (inr (i, d, rest, q, is_function, is, there, more)) =
    after_number b rest d.number at q is there (fields_within schema n (Refused schema n) (refused_within schema n) [] [] d.fields rest q cause more)
