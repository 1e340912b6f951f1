-- Which bytes begin no spelling of a closed type, at which offset and why.
-- What is refused follows from "Binary data serialization" (core.telegram.org/mtproto/serialize); offsets and causes are this project's own.
-- An item is a number, a count, an opaque value or a whole string; the fault lies in the item that begins at the offset, and what is before is
-- spelled right.
use Rattle.std.specs.Prelude.{◌≡◌, ◌≢◌, ◌⊎◌, ℕ, zero, suc, ◌+◌, ◌<◌, ◌≤◌, ◌^◌, List, [], ◌∷◌, ◌++◌, length, replicate, Some, slice_get, true, false}
use Rattle.tl_numbers.specs.Numbers.{word}
use Rattle.tl_numbers.specs.declared.numbers.TheConstants.{BOXED_VECTOR, PACKED}
use Rattle.tl_schema.specs.Types.{Shape, int, long, nat, opaque, str, raw, flag, call, var, vector, boxed, bare}
use Rattle.tl_schema.specs.Closing.{closed, list_of_shapes}
use Rattle.tl_schema.specs.Schemas.{Slot, Declaration, Declared}
use Rattle.tl_schema.specs.Formed.{IsMember, IsFunction}
use Rattle.tl_types.specs.Values.{ValueView, depth}
use Rattle.tl_types.specs.Texts.{three_bytes, missing}
use Rattle.tl_types.specs.Conditions.{stands_by}
use Rattle.tl_types.specs.Spelling.{Spells, SpellsField}
use Rattle.tl_types.specs.declared.cause.Cause.{Cause}
use Rattle.tl_types.specs.declared.cause.Cause.TheVariants.{TooDeep, Truncated, Packed, UnknownNumber, BadCount, LongString, LooseString, BadPadding}

-- ---- items

-- the bytes end inside an item of n bytes
pub record Short (n : ℕ) (b : List ℕ) (at : ℕ) (cause : Cause) : Type 0 where
  pub short : length b < n
  pub here : at ≡ 0
  pub why : cause ≡ Truncated

-- the head of a string of n bytes
pub data TextHead (head : List ℕ) (n : ℕ) : Type 0 where
  one : n ≤ 253 → head ≡ n ∷ [] → TextHead head n
  four : 253 < n → n < 2 ^ 24 → head ≡ 254 ∷ three_bytes n → TextHead head n

-- the bytes begin no string
pub data TextRefused (b : List ℕ) (at : ℕ) (cause : Cause) : Type 0 where
  short : length b < 4 → at ≡ 0 → cause ≡ Truncated → TextRefused b at cause
  long_string : (rest : List ℕ) → 4 ≤ length b → b ≡ 255 ∷ rest → at ≡ 0 → cause ≡ LongString → TextRefused b at cause
  loose_string : (n : ℕ) (rest : List ℕ) → n ≤ 253 → b ≡ 254 ∷ three_bytes n ++ rest → at ≡ 0 → cause ≡ LooseString → TextRefused b at cause
  ended : (head rest : List ℕ) (n : ℕ) → TextHead head n → 4 ≤ length b → b ≡ head ++ rest → length rest < n + missing (length head + n) → at ≡ 0 → cause ≡ Truncated → TextRefused b at cause
  padding : (head s pad rest : List ℕ) → TextHead head (length s) → b ≡ head ++ s ++ pad ++ rest → length pad ≡ missing (length head + length s) → pad ≢ replicate (length pad) 0 → at ≡ 0 → cause ≡ BadPadding → TextRefused b at cause

-- the bytes begin with none of the numbers that are known
pub data NumberRefused (Known : ℕ → Type 0) (b : List ℕ) (at : ℕ) (cause : Cause) : Type 0 where
  short : length b < 4 → at ≡ 0 → cause ≡ Truncated → NumberRefused Known b at cause
  packed : (rest : List ℕ) → b ≡ word PACKED ++ rest → at ≡ 0 → cause ≡ Packed → NumberRefused Known b at cause
  unknown : (w : ℕ) (rest : List ℕ) → w < 2 ^ 32 → b ≡ word w ++ rest → w ≢ PACKED → (Known w → ⊥) → at ≡ 0 → cause ≡ UnknownNumber w → NumberRefused Known b at cause

-- the number of a constructor of the type h
abbrev pub IsMemberNumber : Declared → ℕ → ℕ → Type 0
IsMemberNumber schema h w = (i : ℕ) × (d : Declaration) × IsMember schema h i d × (d.number ≡ w)

-- the number of a function
abbrev pub IsFunctionNumber : Declared → ℕ → Type 0
IsFunctionNumber schema w = (i : ℕ) × (d : Declaration) × IsFunction schema i d × (d.number ≡ w)

-- ---- parts, where R says which bytes begin no spelling of a part, and n levels are left for each

abbrev pub PartRefused : Type 1
PartRefused = Shape → List ℕ → ℕ → Cause → Type 0

-- of k elements some are spelled, and the next is refused in the rest
abbrev pub EachRefused : Declared → ℕ → PartRefused → Shape → ℕ → List ℕ → ℕ → Cause → Type 0
EachRefused schema n R T zero b at cause = ⊥
EachRefused schema n R T (suc k) b at cause =
    R T b at cause
    ⊎ ((v : ValueView) × (x : List ℕ) × (y : List ℕ) × (q : ℕ) × Spells schema T v x × (depth v ≤ n) × (b ≡ x ++ y) × (at ≡ length x + q) × EachRefused schema n R T k y q cause)

-- of these fields some are spelled, and the next is refused in the rest
abbrev pub FieldsRefused : Declared → ℕ → PartRefused → List Shape → List ValueView → List Slot → List ℕ → ℕ → Cause → Type 0
FieldsRefused schema n R args before [] b at cause = ⊥
FieldsRefused schema n R args before (f ∷ fs) b at cause =
    ((stands_by f.cond before ≡ true) × R (closed args f.of) b at cause)
    ⊎ ((v : ValueView) × (x : List ℕ) × (y : List ℕ) × (q : ℕ) × SpellsField schema args before f v x × (depth v ≤ n) × (b ≡ x ++ y) × (at ≡ length x + q) × FieldsRefused schema n R args (before ++ v ∷ []) fs y q cause)

-- no count begins the bytes, or too great a one, or an element is refused
pub data ListRefused (schema : Declared) (n : ℕ) (R : PartRefused) (T : Shape) (b : List ℕ) (at : ℕ) (cause : Cause) : Type 0 where
  short : length b < 4 → at ≡ 0 → cause ≡ Truncated → ListRefused schema n R T b at cause
  many : (w : ℕ) (rest : List ℕ) → w < 2 ^ 32 → 2 ^ 31 ≤ w → b ≡ word w ++ rest → at ≡ 0 → cause ≡ BadCount w → ListRefused schema n R T b at cause
  each : (k : ℕ) (rest : List ℕ) (q : ℕ) → k < 2 ^ 31 → b ≡ word k ++ rest → at ≡ 4 + q → EachRefused schema n R T k rest q cause → ListRefused schema n R T b at cause

-- ---- values

-- with n levels left the bytes begin no spelling
abbrev pub Refused : Declared → ℕ → Shape → List ℕ → ℕ → Cause → Type 0
Refused schema n int b at cause = Short 4 b at cause
Refused schema n long b at cause = Short 8 b at cause
Refused schema n nat b at cause = Short 4 b at cause
Refused schema n (opaque k) b at cause = Short k b at cause
Refused schema n str b at cause = TextRefused b at cause
Refused schema n raw b at cause = TextRefused b at cause
Refused schema n flag b at cause = ⊥
Refused schema n (var i) b at cause = ⊥
Refused schema zero T b at cause = (at ≡ 0) × (cause ≡ TooDeep)
Refused schema (suc n) (vector true T) b at cause =
    NumberRefused (λ w. w ≡ BOXED_VECTOR) b at cause
    ⊎ ((rest : List ℕ) × (q : ℕ) × (b ≡ word BOXED_VECTOR ++ rest) × (at ≡ 4 + q) × ListRefused schema n (Refused schema n) T rest q cause)
Refused schema (suc n) (vector false T) b at cause = ListRefused schema n (Refused schema n) T b at cause
Refused schema (suc n) (boxed h args) b at cause =
    NumberRefused (IsMemberNumber schema h) b at cause
    ⊎ ((i : ℕ) × (d : Declaration) × (rest : List ℕ) × (q : ℕ) × IsMember schema h i d × (b ≡ word d.number ++ rest) × (at ≡ 4 + q)
    × FieldsRefused schema n (Refused schema n) (list_of_shapes args) [] d.fields rest q cause)
Refused schema (suc n) (bare i args) b at cause =
    (d : Declaration) × (slice_get schema.decls i ≡ Some d) × FieldsRefused schema n (Refused schema n) (list_of_shapes args) [] d.fields b at cause
Refused schema (suc n) call b at cause =
    NumberRefused (IsFunctionNumber schema) b at cause
    ⊎ ((i : ℕ) × (d : Declaration) × (rest : List ℕ) × (q : ℕ) × IsFunction schema i d × (b ≡ word d.number ++ rest) × (at ≡ 4 + q)
    × FieldsRefused schema n (Refused schema n) [] [] d.fields rest q cause)
