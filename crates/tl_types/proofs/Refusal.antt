-- What is refused is refused there.
use Rattle.std.proofs.Common.{◌≡◌, ℕ, zero, suc, ◌^◌, ◌<◌, List, [], ◌∷◌, ◌++◌, length, None, Err, refl, ap, ◌∙◌, arith, true, false, inl, inr}
use Rattle.tl_numbers.specs.declared.numbers.TheConstants.{PACKED}
use Rattle.tl_schema.specs.Types.{Shape}
use Rattle.tl_schema.specs.Types as type
use Rattle.tl_schema.specs.Closing.{closed, list_of_shapes}
use Rattle.tl_schema.specs.Schemas.{Slot, Declared}
use Rattle.tl_names.specs.Indexes.{types_of}
use Rattle.tl_types.specs.declared.cause.Cause.{Cause}
use Rattle.tl_types.specs.declared.cause.Cause.TheVariants.{TooDeep, Truncated, BadCount}
use Rattle.tl_types.specs.Values.{ValueView}
use Rattle.tl_types.specs.Values as view
use Rattle.tl_types.specs.Refusal.{EachRefused, FieldsRefused, ListRefused, IsMemberNumber, IsFunctionNumber, Refused}
use Rattle.tl_types.specs.Refusal as kind
use Rattle.tl_types.specs.Offsets.{moved}
use Rattle.tl_types.specs.inner.Reading.{spot, first_from, is_member, is_function, plain_at, deep_at, is_deep, value_at, long_list_at, list_at, each_at, fields_at, record_at, bare_at}
use Rattle.tl_types.proofs.Numbers.{moved_moved, fault_is, exact_short, word_short, double_short}
use Rattle.tl_types.proofs.Texts.{text_refused}
use Rattle.tl_types.proofs.Members.{member_found, function_found, no_member, no_function, fields_there}
use Rattle.tl_types.proofs.FormedParts.{PartsTell, IsRead, AreRead, deep_formed, first_read, others_read}
use Rattle.tl_types.proofs.Records.{number_refused, number_fault}
use Rattle.tl_types.proofs.Lists.{wide_step, list_short, list_many, list_fault, wide_refused}
use Rattle.tl_types.proofs.Spelling.{spelled, value_is_plain, value_is_deep}

-- one level refuses as it should
abbrev pub One : Declared → ℕ → Type 0
One schema n = (T : Shape) → IsRead schema T → (b : List ℕ) (at : ℕ) (cause : Cause) (p : ℕ) → p < 2 ^ 64 → Refused schema n T b at cause → value_at schema.decls n T (spot p b) ≡ Err (moved p at, cause)

each_refused : (schema : Declared) → PartsTell schema → (n : ℕ) → One schema n → (T : Shape) → IsRead schema T → (k : ℕ) (before : List ValueView) (b : List ℕ) (at : ℕ) (cause : Cause) (p : ℕ) → p < 2 ^ 64 → EachRefused schema n (Refused schema n) T k b at cause → each_at (value_at schema.decls n T) k before (spot p b) ≡ Err (moved p at, cause)
unfolding each_at
each_refused schema tell n one T read zero before b at cause p lt r = absurd r
each_refused schema tell n one T read (suc k) before b at cause p lt (inl r) = rw (one T read b at cause p lt r) refl
each_refused schema tell n one T read (suc k) before b at cause p lt (inr (x, u, v, q, s, deep, split, here, r)) =
    let first = spelled schema tell.numbers x T n u v p lt s deep in
    let rest = each_refused schema tell n one T read k (before ++ x ∷ []) v q cause (moved p (length u)) (omega arith) r in
    rw (← moved_moved p (length u) q at here) (ap (λ (z : List ℕ). each_at (value_at schema.decls n T) (suc k) before (spot p z)) split ∙ rw (first, rest) refl)

fields_refused : (schema : Declared) → PartsTell schema → (n : ℕ) → One schema n → (args : List Shape) (before : List ValueView) (fs : List Slot) → AreRead schema args fs → (b : List ℕ) (at : ℕ) (cause : Cause) (p : ℕ) → p < 2 ^ 64 → FieldsRefused schema n (Refused schema n) args before fs b at cause → fields_at (value_at schema.decls n) args before fs (spot p b) ≡ Err (moved p at, cause)
unfolding fields_at
fields_refused schema tell n one args before [] read b at cause p lt r = absurd r
fields_refused schema tell n one args before (f ∷ fs) read b at cause p lt (inl (set, r)) = rw (set, one (closed args f.of) (first_read schema args f fs read) b at cause p lt r) refl
fields_refused schema tell n one args before (f ∷ fs) read b at cause p lt (inr (x, u, v, q, inl (set, s), deep, split, here, r)) =
    let first = spelled schema tell.numbers x (closed args f.of) n u v p lt s deep in
    let rest = fields_refused schema tell n one args (before ++ x ∷ []) fs (others_read schema args f fs read) v q cause (moved p (length u)) (omega arith) r in
    rw (← moved_moved p (length u) q at here) (ap (λ (z : List ℕ). fields_at (value_at schema.decls n) args before (f ∷ fs) (spot p z)) split ∙ rw (set, first, rest) refl)
fields_refused schema tell n one args before (f ∷ fs) read b at cause p lt (inr (x, u, v, q, inr (clear, none, empty), deep, split, here, r)) =
    let same : b ≡ v = split ∙ ap (λ (z : List ℕ). z ++ v) empty in
    let there : at ≡ q = omega (arith, here, ap length empty) in
    let rest = fields_refused schema tell n one args (before ++ x ∷ []) fs (others_read schema args f fs read) v q cause p lt r in
    rw (same, there) (rw clear (rw (← none) rest))

pub list_refused : (schema : Declared) → PartsTell schema → (n : ℕ) → One schema n → (T : Shape) → IsRead schema T → (b : List ℕ) (at : ℕ) (cause : Cause) (p : ℕ) → p < 2 ^ 64 → ListRefused schema n (Refused schema n) T b at cause → list_at (value_at schema.decls n T) (spot p b) ≡ Err (moved p at, cause)
list_refused schema tell n one T read b at cause p lt (kind.short few here why) = list_short (value_at schema.decls n T) p b few ∙ ap Err (fault_is p at Truncated cause lt here why)
list_refused schema tell n one T read b at cause p lt (kind.many w rest fits many is here why) =
    ap (λ (z : List ℕ). list_at (value_at schema.decls n T) (spot p z)) is ∙ list_many (value_at schema.decls n T) p w rest fits many ∙ ap Err (fault_is p at (BadCount w) cause lt here why)
list_refused schema tell n one T read b at cause p lt (kind.each k rest q few is here r) =
    let inner = each_refused schema tell n one T read k [] rest q cause (moved p 4) (omega arith) r in
    rw (← moved_moved p 4 q at here) (ap (λ (z : List ℕ). list_at (value_at schema.decls n T) (spot p z)) is ∙ list_fault (value_at schema.decls n T) p k rest _ few inner)

plain_short : (schema : Declared) (n : ℕ) (T : Shape) (b : List ℕ) (at : ℕ) (cause : Cause) (p : ℕ) → p < 2 ^ 64 → is_deep T ≡ false → at ≡ 0 → cause ≡ Truncated → plain_at T (spot p b) ≡ Err (p, Truncated) → value_at schema.decls n T (spot p b) ≡ Err (moved p at, cause)
plain_short schema n T b at cause p lt plain here why e = value_is_plain schema.decls n T _ plain ∙ e ∙ ap Err (fault_is p at Truncated cause lt here why)

packed_is_none : (schema : Declared) → PartsTell schema → (h : ℕ) → h < length (types_of schema.program) → first_from (is_member h PACKED) 0 schema.decls ≡ None
packed_is_none schema tell h known = no_member schema tell.numbers h PACKED known (λ m. tell.numbers.unpacked m.0 m.1 m.2.there m.3)

packed_is_no_function : (schema : Declared) → PartsTell schema → first_from (is_function PACKED) 0 schema.decls ≡ None
packed_is_no_function schema tell = no_function schema tell.numbers PACKED (λ m. tell.numbers.unpacked m.0 m.1 m.2.there m.3)

zero_deep : (schema : Declared) (T : Shape) (b : List ℕ) (at : ℕ) (cause : Cause) (p : ℕ) → p < 2 ^ 64 → is_deep T ≡ true → (at ≡ 0) × (cause ≡ TooDeep) → value_at schema.decls zero T (spot p b) ≡ Err (moved p at, cause)
unfolding value_at
zero_deep schema T b at cause p lt deep r = rw deep (ap Err (fault_is p at TooDeep cause lt r.0 r.1))

pub refused : (schema : Declared) → PartsTell schema → (n : ℕ) → One schema n
unfolding plain_at deep_at bare_at record_at
refused schema tell n type.int read b at cause p lt r = plain_short schema n type.int b at cause p lt refl r.here r.why (rw (word_short p b r.short) refl)
refused schema tell n type.long read b at cause p lt r = plain_short schema n type.long b at cause p lt refl r.here r.why (rw (double_short p b r.short) refl)
refused schema tell n type.nat read b at cause p lt r = plain_short schema n type.nat b at cause p lt refl r.here r.why (rw (word_short p b r.short) refl)
refused schema tell n (type.opaque k) read b at cause p lt r = plain_short schema n (type.opaque k) b at cause p lt refl r.here r.why (rw (exact_short p p k b r.short) refl)
refused schema tell n type.str read b at cause p lt r = value_is_plain schema.decls n type.str _ refl ∙ rw (text_refused b at cause p lt r) refl
refused schema tell n type.raw read b at cause p lt r = value_is_plain schema.decls n type.raw _ refl ∙ rw (text_refused b at cause p lt r) refl
refused schema tell n type.flag read b at cause p lt r = absurd r
refused schema tell n (type.var i) read b at cause p lt r = absurd r
refused schema tell zero (type.vector w T) read b at cause p lt r = zero_deep schema (type.vector w T) b at cause p lt refl r
refused schema tell zero (type.boxed h args) read b at cause p lt r = zero_deep schema (type.boxed h args) b at cause p lt refl r
refused schema tell zero (type.bare i args) read b at cause p lt r = zero_deep schema (type.bare i args) b at cause p lt refl r
refused schema tell zero type.call read b at cause p lt r = zero_deep schema type.call b at cause p lt refl r
refused schema tell (suc n) (type.vector true T) read b at cause p lt (inl r) = value_is_deep schema.decls n (type.vector true T) _ refl ∙ wide_refused (value_at schema.decls n T) b at cause p lt r
refused schema tell (suc n) (type.vector true T) read b at cause p lt (inr (rest, q, is, here, r)) =
    let formed = deep_formed schema (type.vector true T) refl read in
    let inner = list_refused schema tell n (refused schema tell n) T (inr formed.0) rest q cause (moved p 4) (omega arith) r in
    rw (← moved_moved p 4 q at here) (value_is_deep schema.decls n (type.vector true T) _ refl ∙ ap (λ (z : List ℕ). long_list_at (value_at schema.decls n T) (spot p z)) is ∙ wide_step (value_at schema.decls n T) p rest ∙ inner)
refused schema tell (suc n) (type.vector false T) read b at cause p lt r =
    let formed = deep_formed schema (type.vector false T) refl read in
    value_is_deep schema.decls n (type.vector false T) _ refl ∙ list_refused schema tell n (refused schema tell n) T (inr formed.0) b at cause p lt r
refused schema tell (suc n) (type.boxed h args) read b at cause p lt (inl r) =
    let formed = deep_formed schema (type.boxed h args) refl read in
    value_is_deep schema.decls n (type.boxed h args) _ refl ∙ number_refused (fields_at (value_at schema.decls n) (list_of_shapes args) []) view.node schema.decls (λ w. first_from (is_member h w) 0 schema.decls) (IsMemberNumber schema h) b at cause p lt (packed_is_none schema tell h formed.0.known) (λ w none. no_member schema tell.numbers h w formed.0.known none) r
refused schema tell (suc n) (type.boxed h args) read b at cause p lt (inr (i, d, rest, q, m, is, here, r)) =
    let formed = deep_formed schema (type.boxed h args) refl read in
    let inner = fields_refused schema tell n (refused schema tell n) (list_of_shapes args) [] d.fields (tell.boxed h i d args formed m) rest q cause (moved p 4) (omega arith) r in
    rw (← moved_moved p 4 q at here) (value_is_deep schema.decls n (type.boxed h args) _ refl ∙ ap (λ (z : List ℕ). deep_at schema.decls (value_at schema.decls n) (type.boxed h args) (spot p z)) is
    ∙ number_fault (fields_at (value_at schema.decls n) (list_of_shapes args) []) view.node schema.decls (λ w. first_from (is_member h w) 0 schema.decls) p d.number i rest d.fields _ (tell.numbers.fits i d m.there) (member_found schema tell.numbers h i d m) (fields_there schema.decls i d m.there) inner)
refused schema tell (suc n) (type.bare i args) read b at cause p lt (d, there, r) =
    let formed = deep_formed schema (type.bare i args) refl read in
    value_is_deep schema.decls n (type.bare i args) _ refl ∙ rw (fields_there schema.decls i d there, fields_refused schema tell n (refused schema tell n) (list_of_shapes args) [] d.fields (tell.bare i d args formed there) b at cause p lt r) refl
refused schema tell (suc n) type.call read b at cause p lt (inl r) =
    value_is_deep schema.decls n type.call _ refl ∙ number_refused (fields_at (value_at schema.decls n) [] []) view.call schema.decls (λ w. first_from (is_function w) 0 schema.decls) (IsFunctionNumber schema) b at cause p lt (packed_is_no_function schema tell) (λ w none. no_function schema tell.numbers w none) r
refused schema tell (suc n) type.call read b at cause p lt (inr (i, d, rest, q, m, is, here, r)) =
    let inner = fields_refused schema tell n (refused schema tell n) [] [] d.fields (tell.call i d m) rest q cause (moved p 4) (omega arith) r in
    rw (← moved_moved p 4 q at here) (value_is_deep schema.decls n type.call _ refl ∙ ap (λ (z : List ℕ). deep_at schema.decls (value_at schema.decls n) type.call (spot p z)) is
    ∙ number_fault (fields_at (value_at schema.decls n) [] []) view.call schema.decls (λ w. first_from (is_function w) 0 schema.decls) p d.number i rest d.fields _ (tell.numbers.fits i d m.there) (function_found schema tell.numbers i d m) (fields_there schema.decls i d m.there) inner)
