-- What is shown of a value is read back to it.
use Rattle.std.proofs.Common.{◌≡◌, ◌⊎◌, inl, inr, ℕ, zero, suc, ◌<◌, ◌^◌, ℤ, pos, negsuc, List, [], ◌∷◌, ◌++◌, length, Bool, true, false, Option, Some, None, Ok, option_map, bytes_eq, refl, sym, ap, subst, ◌∙◌, append_assoc, append-nil, arith, lit<, lt-ltb}
use Rattle.std.specs.Prelude.{option_and_then, slice_get}
use Rattle.std.specs.List.{position_from}
use Rattle.std.specs.Map.{lookup}
use Rattle.std.specs.Str.{is_utf8}
use Rattle.std.proofs.lemmas.Bool.{cases_Bool, eq-eqb, false_from_ne_true}
use Rattle.std.proofs.lemmas.Slice.Eq.{bytes_eq-Decides}
use Rattle.std.proofs.lemmas.Str.{encodes_same}
use Rattle.hex.specs.Hex.{encode_lower}
use Rattle.hex.proofs.HexLemmas.{decode_of-encode_lower}
use Rattle.serde_json.specs.Data.{Data, number, unsigned, object, Members}
use Rattle.serde_json.specs.Find.{as_integer, get_member, of_integer}
use Rattle.tl_numbers.specs.Bytes.{AreBytes}
use Rattle.tl_numbers.specs.Numbers.{word}
use Rattle.tl_schema.specs.Types.{Shape, str, raw, flag, vector, boxed, bare}
use Rattle.tl_schema.specs.Types as type
use Rattle.tl_schema.specs.Closing.{closed, list_of_shapes}
use Rattle.tl_schema.specs.Schemas.{Slot, Declaration, Declared}
use Rattle.tl_schema.specs.CheckedPrograms.{IsSchema}
use Rattle.tl_schema.specs.Formed.{IsFunction}
use Rattle.tl_types.specs.Values.{ValueView, int, long, nat, opaque, text, truth, absent, list, node, call, ValueViews, no_values, value, list_of, values_of, count}
use Rattle.tl_types.specs.Conditions.{stands_by}
use Rattle.tl_types.specs.Fitting.{constructs, is_signed}
use Rattle.tl_types.specs.Parts.{arguments_of, fields_in, is_absent, name_in}
use Rattle.tl_types.specs.Spelling.{Begins, SpellEach, SpellFields, SpellsField, Spells, vector_prefix}
use Rattle.tl_types.specs.Spelling as spell
use Rattle.tl_types.specs.Texts.{text_bytes, text_head}
use Rattle.tl_types.proofs.Numbers.{bytes_after}
use Rattle.tl_types.proofs.SchemaNumbers.{numbers_tell}
use Rattle.tl_types.proofs.SignedRanges.{double_word_long, word_int}
use Rattle.tl_show.specs.Shown.{hex_data, name_text, named, shown, shown_each, string_data, text_data, with_fields}
use Rattle.tl_show.specs.Reading.{AreApart, Reader, bytes_of, declaration_named, declaration_of, each_element, each_field, has_other, is_named, is_record, not_there, of_object, of_type, one_field, parts, plain, reader, readers, record_keys, record_value}
use Rattle.tl_show.specs.ReadsBack.{EachValueReadsBack, NamesTell}
use Rattle.tl_show.specs.inner.Forms.{unless_missing}
use Rattle.tl_show.specs.inner.Keyed.{is_named_at}
use Rattle.tl_show.proofs.MembersShown.{Holds, fields_hold, name_holds, no_other_key}
use Rattle.tl_show.proofs.NamedDeclarations.{is_named_so, named_first, named_is}
use Rattle.tl_show.proofs.ReadLoops.{part_at}

-- ---- numbers

integer_back : (z : ℤ) → as_integer (of_integer z) ≡ Some z
integer_back (pos n) = refl
integer_back (negsuc n) = refl

int_back : (z : ℤ) → is_signed (2 ^ 31) z ≡ true → plain type.int (number (of_integer z)) ≡ Ok (int z)
int_back z fits = rw (integer_back z, fits) refl

long_back : (z : ℤ) → is_signed (2 ^ 63) z ≡ true → plain type.long (number (of_integer z)) ≡ Ok (long z)
long_back z fits = rw (integer_back z, fits) refl

nat_back : (n : ℕ) → n < 2 ^ 32 → plain type.nat (number (unsigned n)) ≡ Ok (nat n)
nat_back n few = rw (lt-ltb n (2 ^ 32) few) refl

-- ---- bytes

bytes_before : (x y : List ℕ) → AreBytes (x ++ y) → AreBytes x
bytes_before [] y bytes k = lit< tt
bytes_before (b ∷ x) y bytes zero = bytes 0
bytes_before (b ∷ x) y bytes (suc k) = bytes_before x y (λ j. bytes (suc j)) k

digits_back : (s : List ℕ) → AreBytes s → bytes_of (encode_lower s) ≡ Ok s
digits_back s bytes = rw (decode_of-encode_lower s bytes) refl

opaque_back : (s : List ℕ) → AreBytes s → plain (type.opaque (length s)) (hex_data s) ≡ Ok (opaque s)
opaque_back s bytes = rw (digits_back s bytes, eq-eqb (length s) (length s) refl) refl

raw_back : (s : List ℕ) → AreBytes s → plain raw (hex_data s) ≡ Ok (text s)
raw_back s bytes = rw (digits_back s bytes) refl

string_back : (ds : List Declaration) (s : List ℕ) → AreBytes s → reader ds (string_data s) str ≡ Ok (text s)
string_back ds s bytes = elim (cases_Bool (is_utf8 s)) [
  | inl good ↦ rw good refl
  | inr bad ↦ rw (bad, digits_back s bytes) refl
]

text_back : (ds : List Declaration) (T : Shape) (s : List ℕ) → (T ≡ str) ⊎ (T ≡ raw) → AreBytes s → reader ds (text_data T s) T ≡ Ok (text s)
text_back ds T s (inl is) bytes = rw is (string_back ds s bytes)
text_back ds T s (inr is) bytes = rw is (raw_back s bytes)

text_within : (s : List ℕ) → AreBytes (text_bytes s) → AreBytes s
text_within s bytes = bytes_after (text_head (length s) ++ s) (text_head (length s)) s refl (bytes_before (text_head (length s) ++ s) _ bytes)

-- ---- names

module _ (ds : List Declaration) (tell : NamesTell ds) where
  -- no declaration before it is named so
  not_before : (function : Bool) (i : ℕ) (d : Declaration) → slice_get ds i ≡ Some d → d.function ≡ function → (k : ℕ) → k < i → (o : Option Declaration) → slice_get ds k ≡ o
      → is_named_at function (name_text d.name) o ≡ false
  not_before function i d there kind k below None at = refl
  not_before function i d there kind k below (Some e) at =
      false_from_ne_true _ (λ is.
      let same = named_is function (name_text d.name) e is in
      let one = tell.declarations i k d e there at (kind ∙ sym same.1) (encodes_same d.name e.name same.0) in
      omega (arith, one, below))

  found : (function : Bool) (i : ℕ) (d : Declaration) → slice_get ds i ≡ Some d → d.function ≡ function → position_from (is_named function (name_text d.name)) 0 ds ≡ Some i
  found function i d there kind =
      named_first function (name_text d.name) ds i 0
      (ap (is_named_at function (name_text d.name)) there ∙ is_named_so function (name_text d.name) d refl kind)
      (λ k below. not_before function i d there kind k below _ refl)
      ∙ ap Some (omega arith)

  boxed_named : (h i : ℕ) (args : _) (d : Declaration) → slice_get ds i ≡ Some d → d.function ≡ false → d.head ≡ h → declaration_named ds (boxed h args) (name_text d.name) ≡ Some i
  boxed_named h i args d there kind head =
      let made : constructs h (slice_get ds i) ≡ true = ap (constructs h) there ∙ eq-eqb d.head h head in
      ap (of_type ds h) (found false i d there kind) ∙ rw made refl

  bare_named : (i : ℕ) (args : _) (d : Declaration) → slice_get ds i ≡ Some d → declaration_named ds (bare i args) (name_text d.name) ≡ Some i
  bare_named i args d there =
      let same : bytes_eq (name_text d.name) (name_text (name_in (slice_get ds i))) ≡ true = (bytes_eq-Decides _ _).1 (ap (λ o. name_text (name_in o)) (sym there)) in
      rw same refl

  call_named : (i : ℕ) (d : Declaration) → slice_get ds i ≡ Some d → d.function ≡ true → declaration_named ds type.call (name_text d.name) ≡ Some i
  call_named i d there kind = found true i d there kind

-- ---- records

listed : (vs : ValueViews) → values_of (list_of vs) ≡ vs
listed no_values = refl
listed (value v vs) = ap (value v) (listed vs)

-- a record or call, of the declaration that stands at its place
abbrev shown_record : List Declaration → Shape → Option Declaration → ValueViews → Data
shown_record ds T o vs = object (with_fields ds (arguments_of T) (named (name_in o)) (fields_in o) vs)

-- the fields of a record are read, whichever members have them
abbrev FieldsBack : List Declaration → List Shape → List Slot → ValueViews → Type 0
FieldsBack ds args fs vs = (ms : Members) → Holds ds args fs vs ms → each_field 0 args [] fs (parts ds ms) ≡ Ok (list_of vs)

record_there : (ds : List Declaration) (T : Shape) (i : ℕ) (d : Declaration) (vs : ValueViews) → is_record T ≡ true → slice_get ds i ≡ Some d
    → declaration_named ds T (name_text d.name) ≡ Some i → AreApart (record_keys d.fields) → FieldsBack ds (arguments_of T) d.fields vs
    → reader ds (shown_record ds T (Some d) vs) T ≡ Ok (record_value T i vs)
record_there ds T i d vs record_type there is apart fields =
    let args = arguments_of T in
    let ms = with_fields ds args (named d.name) d.fields vs in
    let name = name_holds ds args d.name d.fields vs apart in
    let read = fields ms (fields_hold ds args d.name d.fields vs apart) in
    let entry : declaration_of ds T ms ≡ Some i = ap (option_and_then (declaration_named ds T)) name ∙ is in
    let none = no_other_key ds args d.name d.fields vs in
    whole ms record_type entry none read
  where
    whole : (ms : Members) → is_record T ≡ true → declaration_of ds T ms ≡ Some i → has_other (record_keys d.fields) ms ≡ false
        → each_field 0 (arguments_of T) [] d.fields (parts ds ms) ≡ Ok (list_of vs) → of_object ds ms (parts ds ms) T ≡ Ok (record_value T i vs)
    whole ms record_type entry none read = rw (record_type, entry, there, none, read, listed vs) refl

record_back : (ds : List Declaration) (T : Shape) (i : ℕ) (d : Declaration) (vs : ValueViews) → is_record T ≡ true → slice_get ds i ≡ Some d
    → declaration_named ds T (name_text d.name) ≡ Some i → AreApart (record_keys d.fields) → FieldsBack ds (arguments_of T) d.fields vs
    → reader ds (shown_record ds T (slice_get ds i) vs) T ≡ Ok (record_value T i vs)
record_back ds T i d vs record_type there is apart fields =
    ap (λ o. reader ds (shown_record ds T o vs) T) there ∙ record_there ds T i d vs record_type there is apart fields

-- ---- parts

-- what is shown of a value is read back
abbrev Back : List Declaration → Shape → ValueView → Type 0
Back ds T v = reader ds (shown ds T v) T ≡ Ok v

there_when_spelled : (schema : Declared) (T : Shape) (v : ValueView) (b : List ℕ) → Spells schema T v b → is_absent v ≡ false
there_when_spelled schema T (int z) b s = refl
there_when_spelled schema T (long z) b s = refl
there_when_spelled schema T (nat n) b s = refl
there_when_spelled schema T (opaque bytes) b s = refl
there_when_spelled schema T (text bytes) b s = refl
there_when_spelled schema T truth b s = refl
there_when_spelled schema T absent b s = absurd s
there_when_spelled schema T (list vs) b s = refl
there_when_spelled schema T (node i vs) b s = refl
there_when_spelled schema T (call i vs) b s = refl

clear_bit : (c : Option (ℕ × ℕ)) (before : List ValueView) → stands_by c before ≡ false → not_there c ≡ Ok absent
clear_bit None before clear = let never : true ≡ false = clear in cc
clear_bit (Some c) before clear = refl

looked_up : (ds : List Declaration) (args : List Shape) (f : Slot) (v : ValueView) (ms : Members) → get_member (name_text f.name) ms ≡ unless_missing (is_absent v) (shown ds (closed args f.of) v)
    → one_field args f (lookup (bytes_eq (name_text f.name)) (parts ds ms)) ≡ one_field args f (option_map (reader ds) (unless_missing (is_absent v) (shown ds (closed args f.of) v)))
looked_up ds args f v ms there = ap (one_field args f) (part_at ds (name_text f.name) ms ∙ ap (option_map (reader ds)) there)

field_back : (schema : Declared) (args : List Shape) (before : List ValueView) (f : Slot) (v : ValueView) (x : List ℕ) (ms : Members) → SpellsField schema args before f v x
    → (Spells schema (closed args f.of) v x → Back schema.decls (closed args f.of) v)
    → get_member (name_text f.name) ms ≡ unless_missing (is_absent v) (shown schema.decls (closed args f.of) v)
    → one_field args f (lookup (bytes_eq (name_text f.name)) (parts schema.decls ms)) ≡ Ok v
field_back schema args before f v x ms (inl (set, spelled)) back there =
    looked_up schema.decls args f v ms there ∙ rw (there_when_spelled schema (closed args f.of) v x spelled) (back spelled)
field_back schema args before f v x ms (inr (clear, is, none)) back there =
    looked_up schema.decls args f v ms there ∙ rw is (clear_bit f.cond before clear)

next_field : (i : ℕ) (args : List Shape) (before : List ValueView) (f : Slot) (fs : List Slot) (v : ValueView) (vs : ValueViews) (ds : List Declaration) (ms : Members)
    → one_field args f (lookup (bytes_eq (name_text f.name)) (parts ds ms)) ≡ Ok v
    → each_field (suc i) args (before ++ v ∷ []) fs (parts ds ms) ≡ Ok ((before ++ v ∷ []) ++ list_of vs)
    → each_field i args before (f ∷ fs) (parts ds ms) ≡ Ok (before ++ v ∷ list_of vs)
next_field i args before f fs v vs ds ms first rest = rw first (rest ∙ ap Ok (append_assoc before (v ∷ []) (list_of vs)))

next_element : (i : ℕ) (T : Shape) (before : List ValueView) (v : ValueView) (vs : ValueViews) (ds : List Declaration) (rs : List Reader) → Back ds T v
    → each_element (suc i) T (before ++ v ∷ []) rs ≡ Ok ((before ++ v ∷ []) ++ list_of vs)
    → each_element i T before (reader ds (shown ds T v) ∷ rs) ≡ Ok (before ++ v ∷ list_of vs)
next_element i T before v vs ds rs first rest = rw first (rest ∙ ap Ok (append_assoc before (v ∷ []) (list_of vs)))

list_back : (ds : List Declaration) (T U : Shape) (is_boxed : Bool) (vs : ValueViews) → T ≡ vector is_boxed U → each_element 0 U [] (readers ds (shown_each ds U vs)) ≡ Ok (list_of vs) → Back ds T (list vs)
list_back ds T U is_boxed vs is read =
    let P : Shape → Type 0 = λ S. Back ds S (list vs) in
    subst P (sym is) (by_list read)
  where
    by_list : each_element 0 U [] (readers ds (shown_each ds U vs)) ≡ Ok (list_of vs) → Back ds (vector is_boxed U) (list vs)
    by_list e = rw (e, listed vs) refl

-- ---- values

module _ (schema : Declared) (good : IsSchema schema) (tell : NamesTell schema.decls) where
  node_back : (T : Shape) (i : ℕ) (d : Declaration) (args : _) (prefix : List ℕ) (vs : ValueViews) → Begins schema T i d args prefix → FieldsBack schema.decls (list_of_shapes args) d.fields vs
      → Back schema.decls T (node i vs)
  node_back T i d args prefix vs (spell.boxed h is m first) fields =
      let P : Shape → Type 0 = λ S. Back schema.decls S (node i vs) in
      let constructor = (numbers_tell schema good).constructs h i d m in
      subst P (sym is)
      (record_back schema.decls (boxed h args) i d vs refl m.there (boxed_named schema.decls tell h i args d m.there constructor m.head) (tell.fields i d m.there) fields)
  node_back T i d args prefix vs (spell.bare is there first) fields =
      let P : Shape → Type 0 = λ S. Back schema.decls S (node i vs) in
      subst P (sym is) (record_back schema.decls (bare i args) i d vs refl there (bare_named schema.decls tell i args d there) (tell.fields i d there) fields)

  call_back : (T : Shape) (i : ℕ) (d : Declaration) (vs : ValueViews) → T ≡ type.call → IsFunction schema i d → FieldsBack schema.decls [] d.fields vs → Back schema.decls T (call i vs)
  call_back T i d vs is m fields =
      let P : Shape → Type 0 = λ S. Back schema.decls S (call i vs) in
      subst P (sym is) (record_back schema.decls type.call i d vs refl m.there (call_named schema.decls tell i d m.there m.function) (tell.fields i d m.there) fields)

  mutual
    value_back : (T : Shape) (v : ValueView) (b : List ℕ) → AreBytes b → Spells schema T v b → Back schema.decls T v
    value_back T (int z) b bytes (is, k, few, same, spelled) = rw is (int_back z (rw same (word_int k few)))
    value_back T (long z) b bytes (is, k, few, same, spelled) = rw is (long_back z (rw same (double_word_long k few)))
    value_back T (nat n) b bytes (is, few, spelled) = rw is (nat_back n few)
    value_back T (opaque s) b bytes (is, spelled) = rw is (opaque_back s (subst AreBytes spelled bytes))
    value_back T (text s) b bytes (is, few, spelled) = text_back schema.decls T s is (text_within s (subst AreBytes spelled bytes))
    value_back T truth b bytes (is, spelled) = rw is refl
    value_back T absent b bytes spelled = absurd spelled
    value_back T (list vs) b bytes (is_boxed, U, rest, is, few, spelled, each) =
        list_back schema.decls T U is_boxed vs is (each_back U vs rest (bytes_after b (vector_prefix is_boxed ++ word (count vs)) rest spelled bytes) each 0 [])
    value_back T (node i vs) b bytes (d, args, prefix, rest, begins, spelled, fields) =
        node_back T i d args prefix vs begins (λ ms held. fields_back (list_of_shapes args) [] d.fields vs rest (bytes_after b prefix rest spelled bytes) fields 0 ms held)
    value_back T (call i vs) b bytes (d, rest, is, m, spelled, fields) =
        call_back T i d vs is m (λ ms held. fields_back [] [] d.fields vs rest (bytes_after b (word d.number) rest spelled bytes) fields 0 ms held)

    each_back : (T : Shape) (vs : ValueViews) (b : List ℕ) → AreBytes b → SpellEach schema T vs b → (i : ℕ) (before : List ValueView)
        → each_element i T before (readers schema.decls (shown_each schema.decls T vs)) ≡ Ok (before ++ list_of vs)
    each_back T no_values b bytes spelled i before = ap Ok (sym (append-nil before))
    each_back T (value v vs) b bytes (x, y, parts_of, first, others) i before =
        let all = subst AreBytes parts_of bytes in
        next_element i T before v vs schema.decls (readers schema.decls (shown_each schema.decls T vs)) (value_back T v x (bytes_before x y all) first) (each_back T vs y (bytes_after b x y parts_of bytes) others (suc i) (before ++ v ∷ []))

    fields_back : (args : List Shape) (before : List ValueView) (fs : List Slot) (vs : ValueViews) (b : List ℕ) → AreBytes b → SpellFields schema args before fs vs b → (i : ℕ) (ms : Members)
        → Holds schema.decls args fs vs ms → each_field i args before fs (parts schema.decls ms) ≡ Ok (before ++ list_of vs)
    fields_back args before [] no_values b bytes spelled i ms held = ap Ok (sym (append-nil before))
    fields_back args before [] (value v vs) b bytes spelled i ms held = absurd spelled
    fields_back args before (f ∷ fs) no_values b bytes spelled i ms held = absurd spelled
    fields_back args before (f ∷ fs) (value v vs) b bytes (x, y, parts_of, first, others) i ms held =
        let all = subst AreBytes parts_of bytes in
        let here = field_back schema args before f v x ms first (value_back (closed args f.of) v x (bytes_before x y all)) held.0 in
        next_field i args before f fs v vs schema.decls ms here (fields_back args (before ++ v ∷ []) fs vs y (bytes_after b x y parts_of bytes) others (suc i) ms held.1)

pub each_value_reads_back : EachValueReadsBack
each_value_reads_back schema good tell T v b bytes spelled = value_back schema good tell T v b bytes spelled
