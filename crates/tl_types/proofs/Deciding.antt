-- Bytes begin with the spelling of a value, or they are refused.
use Rattle.std.proofs.Common.{◌≡◌, ◌⊎◌, inl, inr, ℕ, zero, suc, ◌+◌, ◌^◌, ◌≤◌, ◌<◌, List, [], ◌∷◌, ◌++◌, append_assoc, length, slice_get, Some, refl, sym, ap, ◌∙◌, arith, true, false, eqb}
use Rattle.std.proofs.lemmas.Bool.{eqb-true, eqb-false, cases_lt}
use Rattle.tl_numbers.specs.Bytes.{AreBytes}
use Rattle.tl_numbers.specs.Numbers.{word, double_word}
use Rattle.tl_numbers.specs.declared.numbers.TheConstants.{BOXED_VECTOR, PACKED}
use Rattle.tl_schema.specs.Types.{Shape, Shapes}
use Rattle.tl_schema.specs.Types as type
use Rattle.tl_schema.specs.Closing.{closed, list_of_shapes}
use Rattle.tl_schema.specs.Schemas.{Slot, Declaration, Declared}
use Rattle.tl_schema.specs.Formed.{IsMember, IsFunction}
use Rattle.tl_types.specs.declared.cause.Cause.{Cause}
use Rattle.tl_types.specs.declared.cause.Cause.TheVariants.{TooDeep, Truncated, Packed, UnknownNumber, BadCount}
use Rattle.tl_types.specs.Values.{ValueView, ValueViews, no_values, value, absent, depth, depth_of, count}
use Rattle.tl_types.specs.Values as view
use Rattle.tl_types.specs.Texts.{text_bytes}
use Rattle.tl_types.specs.Conditions.{stands_by}
use Rattle.tl_types.specs.Spelling.{vector_prefix, Spells, SpellEach, SpellFields, SpellsField}
use Rattle.tl_types.specs.Spelling as begins
use Rattle.tl_types.specs.Refusal.{NumberRefused, EachRefused, FieldsRefused, ListRefused, Refused}
use Rattle.tl_types.specs.Refusal as kind
use Rattle.tl_types.specs.Exactly.{BeginsWith}
use Rattle.tl_types.proofs.Numbers.{bytes_after, BeginsItem, begins_item, BeginsWord, begins_word, BeginsDouble, begins_double}
use Rattle.tl_types.proofs.Numbers as prefix
use Rattle.tl_types.proofs.Texts.{TextDecided, text_decided}
use Rattle.tl_types.proofs.Texts as text
use Rattle.tl_types.proofs.Members.{by_test, SoughtNumber, has, lacks, seek_member, seek_function}
use Rattle.tl_types.proofs.FormedParts.{PartsTell, IsRead, AreRead, deep_formed, first_read, others_read}

abbrev pub Decided : Declared → ℕ → Shape → List ℕ → Type 0
Decided schema n T b = ((v : ValueView) × (x : List ℕ) × BeginsWith schema n T b v x) ⊎ ((at : ℕ) × (cause : Cause) × Refused schema n T b at cause)

-- ---- values without parts

int_decided : (schema : Declared) (n : ℕ) (b : List ℕ) → BeginsWord b → Decided schema n type.int b
int_decided schema n b (prefix.short few) = inr (0, Truncated, record { short = few; here = refl; why = refl })
int_decided schema n b (prefix.whole w rest fits is bytes) = inl (view.int _, word w, (rest, is, (refl, w, fits, refl, refl), omega arith))

nat_decided : (schema : Declared) (n : ℕ) (b : List ℕ) → BeginsWord b → Decided schema n type.nat b
nat_decided schema n b (prefix.short few) = inr (0, Truncated, record { short = few; here = refl; why = refl })
nat_decided schema n b (prefix.whole w rest fits is bytes) = inl (view.nat w, word w, (rest, is, (refl, fits, refl), omega arith))

long_decided : (schema : Declared) (n : ℕ) (b : List ℕ) → BeginsDouble b → Decided schema n type.long b
long_decided schema n b (prefix.short few) = inr (0, Truncated, record { short = few; here = refl; why = refl })
long_decided schema n b (prefix.whole w rest fits is) = inl (view.long _, double_word w, (rest, is, (refl, w, fits, refl, refl), omega arith))

opaque_decided : (schema : Declared) (n k : ℕ) (b : List ℕ) → BeginsItem k b → Decided schema n (type.opaque k) b
opaque_decided schema n k b (prefix.short few) = inr (0, Truncated, record { short = few; here = refl; why = refl })
opaque_decided schema n k b (prefix.whole x rest len is) = inl (view.opaque x, x, (rest, is, (ap type.opaque (sym len), refl), omega arith))

str_decided : (schema : Declared) (n : ℕ) (b : List ℕ) → TextDecided b → Decided schema n type.str b
str_decided schema n b (text.begins s rest few is) = inl (view.text s, text_bytes s, (rest, is, (inl refl, few, refl), omega arith))
str_decided schema n b (text.none at cause r) = inr (at, cause, r)

raw_decided : (schema : Declared) (n : ℕ) (b : List ℕ) → TextDecided b → Decided schema n type.raw b
raw_decided schema n b (text.begins s rest few is) = inl (view.text s, text_bytes s, (rest, is, (inr refl, few, refl), omega arith))
raw_decided schema n b (text.none at cause r) = inr (at, cause, r)

-- ---- elements

abbrev EachDecided : Declared → ℕ → Shape → ℕ → List ℕ → Type 0
EachDecided schema n T k b =
    ((vs : ValueViews) × (x : List ℕ) × (rest : List ℕ) × (b ≡ x ++ rest) × (count vs ≡ k) × SpellEach schema T vs x × (depth_of vs ≤ n))
    ⊎ ((at : ℕ) × (cause : Cause) × EachRefused schema n (Refused schema n) T k b at cause)

each_after : (schema : Declared) (n : ℕ) (T : Shape) (k : ℕ) (b : List ℕ) (v : ValueView) (x rest : List ℕ) → b ≡ x ++ rest → Spells schema T v x → depth v ≤ n → EachDecided schema n T k rest → EachDecided schema n T (suc k) b
each_after schema n T k b v x rest is spells deep (inl (vs, y, more, split, len, each, deep_more)) =
    inl (value v vs, x ++ y, more, is ∙ ap (λ (z : List ℕ). x ++ z) split ∙ sym (append_assoc x y more), ap suc len, (x, y, refl, spells, each), omega (arith, deep, deep_more))
each_after schema n T k b v x rest is spells deep (inr (at, cause, r)) = inr (length x + at, cause, inr (v, x, rest, at, spells, deep, is, refl, r))

each_next : (schema : Declared) (n : ℕ) (T : Shape) (k : ℕ) (b : List ℕ) → AreBytes b → ((c : List ℕ) → AreBytes c → EachDecided schema n T k c) → Decided schema n T b → EachDecided schema n T (suc k) b
each_next schema n T k b bytes others (inl (v, x, (rest, is, spells, deep))) = each_after schema n T k b v x rest is spells deep (others rest (bytes_after b x rest is bytes))
each_next schema n T k b bytes others (inr (at, cause, r)) = inr (at, cause, inl r)

each_decided : (schema : Declared) (n : ℕ) (T : Shape) → ((c : List ℕ) → AreBytes c → Decided schema n T c) → (k : ℕ) (b : List ℕ) → AreBytes b → EachDecided schema n T k b
each_decided schema n T one zero b bytes = inl (no_values, [], b, refl, refl, refl, omega arith)
each_decided schema n T one (suc k) b bytes = each_next schema n T k b bytes (λ c bytes_c. each_decided schema n T one k c bytes_c) (one b bytes)

-- ---- fields

-- one level is decided
abbrev pub OneDecided : Declared → ℕ → Type 0
OneDecided schema n = (T : Shape) → IsRead schema T → (b : List ℕ) → AreBytes b → Decided schema n T b

abbrev FieldsDecided : Declared → ℕ → List Shape → List ValueView → List Slot → List ℕ → Type 0
FieldsDecided schema n args before fs b =
    ((vs : ValueViews) × (x : List ℕ) × (rest : List ℕ) × (b ≡ x ++ rest) × SpellFields schema args before fs vs x × (depth_of vs ≤ n))
    ⊎ ((at : ℕ) × (cause : Cause) × FieldsRefused schema n (Refused schema n) args before fs b at cause)

field_after : (schema : Declared) (n : ℕ) (args : List Shape) (before : List ValueView) (f : Slot) (fs : List Slot) (b : List ℕ) (v : ValueView) (x rest : List ℕ) → b ≡ x ++ rest → SpellsField schema args before f v x → depth v ≤ n
    → FieldsDecided schema n args (before ++ v ∷ []) fs rest → FieldsDecided schema n args before (f ∷ fs) b
field_after schema n args before f fs b v x rest is spells deep (inl (vs, y, more, split, others, deep_more)) =
    inl (value v vs, x ++ y, more, is ∙ ap (λ (z : List ℕ). x ++ z) split ∙ sym (append_assoc x y more), (x, y, refl, spells, others), omega (arith, deep, deep_more))
field_after schema n args before f fs b v x rest is spells deep (inr (at, cause, r)) = inr (length x + at, cause, inr (v, x, rest, at, spells, deep, is, refl, r))

abbrev OthersDecided : Declared → ℕ → List Shape → List Slot → Type 0
OthersDecided schema n args fs = (before : List ValueView) (c : List ℕ) → AreBytes c → FieldsDecided schema n args before fs c

field_there : (schema : Declared) (n : ℕ) (args : List Shape) (before : List ValueView) (f : Slot) (fs : List Slot) (b : List ℕ) → AreBytes b → OthersDecided schema n args fs → stands_by f.cond before ≡ true → Decided schema n (closed args f.of) b → FieldsDecided schema n args before (f ∷ fs) b
field_there schema n args before f fs b bytes others set (inl (v, x, (rest, is, spells, deep))) =
    field_after schema n args before f fs b v x rest is (inl (set, spells)) deep (others (before ++ v ∷ []) rest (bytes_after b x rest is bytes))
field_there schema n args before f fs b bytes others set (inr (at, cause, r)) = inr (at, cause, inl (set, r))

fields_decided : (schema : Declared) (n : ℕ) → OneDecided schema n → (args : List Shape) (fs : List Slot) → AreRead schema args fs → OthersDecided schema n args fs
fields_decided schema n one args [] read before b bytes = inl (no_values, [], b, refl, refl, omega arith)
fields_decided schema n one args (f ∷ fs) read before b bytes =
    let others = fields_decided schema n one args fs (others_read schema args f fs read) in
    by_test (stands_by f.cond before)
    (λ set. field_there schema n args before f fs b bytes others set (one (closed args f.of) (first_read schema args f fs read) b bytes))
    (λ clear. field_after schema n args before f fs b absent [] b refl (inr (clear, refl, refl)) (omega arith) (others (before ++ absent ∷ []) b bytes))

-- ---- lists

wrong_number : (Known : ℕ → Type 0) (b : List ℕ) (w : ℕ) (rest : List ℕ) → w < 2 ^ 32 → b ≡ word w ++ rest → (Known w → ⊥) → (cause : Cause) × NumberRefused Known b 0 cause
wrong_number Known b w rest fits is unknown =
    by_test (eqb w PACKED)
    (λ test. (Packed, kind.packed rest (is ∙ ap (λ (k : ℕ). word k ++ rest) (eqb-true _ _ test)) refl refl))
    (λ test. (UnknownNumber w, kind.unknown w rest fits is (eqb-false _ _ test) unknown refl refl))

abbrev ListDecided : Declared → ℕ → Shape → List ℕ → Type 0
ListDecided schema n T b =
    ((vs : ValueViews) × (x : List ℕ) × (rest : List ℕ) × (b ≡ (word (count vs) ++ x) ++ rest) × (count vs < 2 ^ 31) × SpellEach schema T vs x × (depth_of vs ≤ n))
    ⊎ ((at : ℕ) × (cause : Cause) × ListRefused schema n (Refused schema n) T b at cause)

counted : (schema : Declared) (n : ℕ) (T : Shape) (b : List ℕ) (k : ℕ) (rest : List ℕ) → k < 2 ^ 31 → b ≡ word k ++ rest → EachDecided schema n T k rest → ListDecided schema n T b
counted schema n T b k rest few is (inl (vs, x, more, split, len, each, deep)) =
    inl (
      vs,
      x,
      more,
      is ∙ ap (λ (z : List ℕ). word k ++ z) split ∙ sym (append_assoc (word k) x more) ∙ ap (λ (j : ℕ). (word j ++ x) ++ more) (sym len),
      omega (arith, few, len),
      each,
      deep,
    )
counted schema n T b k rest few is (inr (at, cause, r)) = inr (4 + at, cause, kind.each k rest at few is refl r)

list_decided : (schema : Declared) (n : ℕ) (T : Shape) → ((c : List ℕ) → AreBytes c → Decided schema n T c) → (b : List ℕ) → BeginsWord b → ListDecided schema n T b
list_decided schema n T one b (prefix.short few) = inr (0, Truncated, kind.short few refl refl)
list_decided schema n T one b (prefix.whole w rest fits is bytes) =
    elim (cases_lt w (2 ^ 31)) [
      | inl few ↦ counted schema n T b w rest few is (each_decided schema n T one w rest bytes)
      | inr many ↦ inr (0, BadCount w, kind.many w rest fits many is refl refl)
    ]

bare_list : (schema : Declared) (n : ℕ) (T : Shape) (b : List ℕ) → ListDecided schema n T b → Decided schema (suc n) (type.vector false T) b
bare_list schema n T b (inl (vs, x, rest, is, few, each, deep)) = inl (view.list vs, word (count vs) ++ x, (rest, is, (false, T, x, refl, few, refl, each), omega (arith, deep)))
bare_list schema n T b (inr (at, cause, r)) = inr (at, cause, r)

boxed_list : (schema : Declared) (n : ℕ) (T : Shape) (b rest : List ℕ) → b ≡ word BOXED_VECTOR ++ rest → ListDecided schema n T rest → Decided schema (suc n) (type.vector true T) b
boxed_list schema n T b rest is (inl (vs, x, more, split, few, each, deep)) =
    let head = word BOXED_VECTOR in
    let size = word (count vs) in
    inl (
      view.list vs,
      head ++ size ++ x,
      (
        more,
        is ∙ ap (λ (z : List ℕ). head ++ z) split ∙ sym (append_assoc head (size ++ x) more) ∙ ap (λ (z : List ℕ). z ++ more) (sym (append_assoc head size x)),
        (true, T, x, refl, few, refl, each),
        omega (arith, deep),
      ),
    )
boxed_list schema n T b rest is (inr (at, cause, r)) = inr (4 + at, cause, inr (rest, at, is, refl, r))

boxed_vector : (schema : Declared) (n : ℕ) (T : Shape) → ((c : List ℕ) → AreBytes c → Decided schema n T c) → (b : List ℕ) → BeginsWord b → Decided schema (suc n) (type.vector true T) b
boxed_vector schema n T one b (prefix.short few) = inr (0, Truncated, inl (kind.short few refl refl))
boxed_vector schema n T one b (prefix.whole w rest fits is bytes) =
    by_test (eqb w BOXED_VECTOR)
    (λ test. boxed_list schema n T b rest (is ∙ ap (λ (k : ℕ). word k ++ rest) (eqb-true _ _ test)) (list_decided schema n T one rest (begins_word rest bytes)))
    (λ test. let wrong = wrong_number (λ k. k ≡ BOXED_VECTOR) b w rest fits is (eqb-false _ _ test) in inr (0, wrong.0, inl wrong.1))

-- ---- records and calls

abbrev NumberDecided : Declared → ℕ → (ℕ → Declaration → Type 0) → List Shape → List ℕ → Type 0
NumberDecided schema n Is args b =
    ((i : ℕ) × (d : Declaration) × (vs : ValueViews) × (x : List ℕ) × (rest : List ℕ) × Is i d × (b ≡ (word d.number ++ x) ++ rest) × SpellFields schema args [] d.fields vs x × (depth_of vs ≤ n))
    ⊎ ((at : ℕ) × (cause : Cause) × (NumberRefused (λ w. (i : ℕ) × (d : Declaration) × Is i d × (d.number ≡ w)) b at cause
    ⊎ ((i : ℕ) × (d : Declaration) × (rest : List ℕ) × (q : ℕ) × Is i d × (b ≡ word d.number ++ rest) × (at ≡ 4 + q) × FieldsRefused schema n (Refused schema n) args [] d.fields rest q cause)))

numbered : (schema : Declared) (n : ℕ) (Is : ℕ → Declaration → Type 0) (args : List Shape) (b rest : List ℕ) (i : ℕ) (d : Declaration) → Is i d → b ≡ word d.number ++ rest → FieldsDecided schema n args [] d.fields rest → NumberDecided schema n Is args b
numbered schema n Is args b rest i d m is (inl (vs, x, more, split, fields, deep)) =
    inl (i, d, vs, x, more, m, is ∙ ap (λ (z : List ℕ). word d.number ++ z) split ∙ sym (append_assoc (word d.number) x more), fields, deep)
numbered schema n Is args b rest i d m is (inr (at, cause, r)) = inr (4 + at, cause, inr (i, d, rest, at, m, is, refl, r))

sought : (schema : Declared) (n : ℕ) (Is : ℕ → Declaration → Type 0) (args : List Shape) (b : List ℕ) (w : ℕ) (rest : List ℕ) → w < 2 ^ 32 → b ≡ word w ++ rest → ((i : ℕ) (d : Declaration) → Is i d → FieldsDecided schema n args [] d.fields rest)
    → SoughtNumber Is w → NumberDecided schema n Is args b
sought schema n Is args b w rest fits is fields (has i d m number) = numbered schema n Is args b rest i d m (is ∙ ap (λ (k : ℕ). word k ++ rest) (sym number)) (fields i d m)
sought schema n Is args b w rest fits is fields (lacks no_one) =
    let wrong = wrong_number (λ k. (i : ℕ) × (d : Declaration) × Is i d × (d.number ≡ k)) b w rest fits is no_one in inr (0, wrong.0, inl wrong.1)

number_decided : (schema : Declared) (n : ℕ) (Is : ℕ → Declaration → Type 0) (args : List Shape) → ((i : ℕ) (d : Declaration) → Is i d → (c : List ℕ) → AreBytes c → FieldsDecided schema n args [] d.fields c) → ((w : ℕ) → SoughtNumber Is w)
    → (b : List ℕ) → BeginsWord b → NumberDecided schema n Is args b
number_decided schema n Is args fields seek b (prefix.short few) = inr (0, Truncated, inl (kind.short few refl refl))
number_decided schema n Is args fields seek b (prefix.whole w rest fits is bytes) = sought schema n Is args b w rest fits is (λ i d m. fields i d m rest bytes) (seek w)

boxed_record : (schema : Declared) (n h : ℕ) (args : Shapes) (b : List ℕ) → NumberDecided schema n (IsMember schema h) (list_of_shapes args) b → Decided schema (suc n) (type.boxed h args) b
boxed_record schema n h args b (inl (i, d, vs, x, rest, m, is, fields, deep)) =
    inl (view.node i vs, word d.number ++ x, (rest, is, (d, args, word d.number, x, begins.boxed h refl m refl, refl, fields), omega (arith, deep)))
boxed_record schema n h args b (inr (at, cause, r)) = inr (at, cause, r)

bare_record : (schema : Declared) (n i : ℕ) (d : Declaration) (args : Shapes) (b : List ℕ) → slice_get schema.decls i ≡ Some d → FieldsDecided schema n (list_of_shapes args) [] d.fields b → Decided schema (suc n) (type.bare i args) b
bare_record schema n i d args b there (inl (vs, x, rest, is, fields, deep)) = inl (view.node i vs, x, (rest, is, (d, args, [], x, begins.bare refl there refl, refl, fields), omega (arith, deep)))
bare_record schema n i d args b there (inr (at, cause, r)) = inr (at, cause, (d, there, r))

call_record : (schema : Declared) (n : ℕ) (b : List ℕ) → NumberDecided schema n (IsFunction schema) [] b → Decided schema (suc n) type.call b
call_record schema n b (inl (i, d, vs, x, rest, m, is, fields, deep)) = inl (view.call i vs, word d.number ++ x, (rest, is, (d, x, refl, m, refl, fields), omega (arith, deep)))
call_record schema n b (inr (at, cause, r)) = inr (at, cause, r)

-- ---- values

pub decided : (schema : Declared) → PartsTell schema → (n : ℕ) → OneDecided schema n
decided schema tell n type.int read b bytes = int_decided schema n b (begins_word b bytes)
decided schema tell n type.long read b bytes = long_decided schema n b (begins_double b bytes)
decided schema tell n type.nat read b bytes = nat_decided schema n b (begins_word b bytes)
decided schema tell n (type.opaque k) read b bytes = opaque_decided schema n k b (begins_item k b)
decided schema tell n type.str read b bytes = str_decided schema n b (text_decided b bytes)
decided schema tell n type.raw read b bytes = raw_decided schema n b (text_decided b bytes)
decided schema tell n type.flag read b bytes = inl (view.truth, [], (b, refl, (refl, refl), omega arith))
decided schema tell n (type.var i) (inl e) b bytes = absurd cc
decided schema tell n (type.var i) (inr formed) b bytes = absurd (omega (arith, formed))
decided schema tell zero (type.vector is_boxed T) read b bytes = inr (0, TooDeep, (refl, refl))
decided schema tell zero (type.boxed h args) read b bytes = inr (0, TooDeep, (refl, refl))
decided schema tell zero (type.bare i args) read b bytes = inr (0, TooDeep, (refl, refl))
decided schema tell zero type.call read b bytes = inr (0, TooDeep, (refl, refl))
decided schema tell (suc n) (type.vector true T) read b bytes =
    let formed = deep_formed schema (type.vector true T) refl read in
    boxed_vector schema n T (decided schema tell n T (inr formed.0)) b (begins_word b bytes)
decided schema tell (suc n) (type.vector false T) read b bytes =
    let formed = deep_formed schema (type.vector false T) refl read in
    bare_list schema n T b (list_decided schema n T (decided schema tell n T (inr formed.0)) b (begins_word b bytes))
decided schema tell (suc n) (type.boxed h args) read b bytes =
    let formed = deep_formed schema (type.boxed h args) refl read in
    boxed_record schema n h args b
    (number_decided schema n (IsMember schema h) (list_of_shapes args) (λ i d m. fields_decided schema n (decided schema tell n) (list_of_shapes args) d.fields (tell.boxed h i d args formed m) [])
    (λ w. seek_member schema tell.numbers h w formed.0.known) b (begins_word b bytes))
decided schema tell (suc n) (type.bare i args) read b bytes =
    let formed = deep_formed schema (type.bare i args) refl read in
    let d = formed.0.d in
    let there = formed.0.member.there in
    bare_record schema n i d args b there (fields_decided schema n (decided schema tell n) (list_of_shapes args) d.fields (tell.bare i d args formed there) [] b bytes)
decided schema tell (suc n) type.call read b bytes =
    call_record schema n b
    (number_decided schema n (IsFunction schema) [] (λ i d m. fields_decided schema n (decided schema tell n) [] d.fields (tell.call i d m) []) (λ w. seek_function schema tell.numbers w) b (begins_word b bytes))
