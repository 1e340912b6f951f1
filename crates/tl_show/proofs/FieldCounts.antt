-- How many fields are there of those that were read.
use Rattle.std.proofs.Common.{◌≡◌, ℕ, suc, ◌+◌, ◌-◌, List, [], ◌∷◌, ◌++◌, map, Bool, true, false, not, cond, if◌then◌else◌, Option, Some, None, Result, Ok, Err, option_map, is_some, codes, bytes_eq, Vec, Global, refl, sym, ap, ◌∙◌, arith, pos, negsuc, ℤ, nat_lt, ◌==◌, length, ◌^◌}
use Rattle.std.specs.Prelude.{IsOkAnd, count_by, option_and_then, slice_get}
use Rattle.std.specs.Map.{lookup}
use Rattle.std.proofs.lemmas.List.Sums.{sum_by-cons}
use Rattle.serde_json.specs.Data.{Data, null, boolean, number, string, array, object, Members}
use Rattle.serde_json.specs.Events.{members_len}
use Rattle.serde_json.specs.Find.{as_bool, as_str, get_member}
use Rattle.tl_schema.specs.Types.{Shape, str, raw, flag, var, vector, boxed, bare}
use Rattle.tl_schema.specs.Types as type
use Rattle.tl_schema.specs.Closing.{closed}
use Rattle.tl_schema.specs.Schemas.{Slot, Declaration}
use Rattle.tl_types.specs.Values.{ValueView, ValueViews, int, long, nat, opaque, text, truth, list, values_of}
use Rattle.tl_types.specs.Seen.{view}
use Rattle.tl_types.specs.declared.value.Value.{Value}
use Rattle.tl_types.specs.Parts.{arguments_of, fields_in, is_absent}
use Rattle.tl_types.specs.Fitting.{is_signed}
use Rattle.tl_show.specs.Shown.{name_text}
use Rattle.tl_show.specs.Reading.{AreApart, Parts, Read, Reader, all_fields, declaration_of, digits_of, each_element, each_field, flag_of, inside, int_of, is_record, long_of, nat_of, not_there, of_array, of_declaration, one_field, opaque_of, parts, plain, reader, readers, record_keys, record_value, string_of, text_at, whole_in, ◌>>=◌}
use Rattle.tl_show.specs.inner.FormTells.{Tells}
use Rattle.tl_show.specs.declared.fault.FormFault.{FormFault}
use Rattle.tl_show.proofs.OtherKeys.{held, held_within, no_other, one_if}
use Rattle.tl_show.proofs.ReadLoops.{part_at}

-- ---- what is read is there

abbrev There : Read ValueView → Type 0
There r = (v : ValueView) → r ≡ Ok v → is_absent v ≡ false

is_there : (v : ValueView) → is_absent v ≡ false → There (Ok v)
is_there v there w is = let same : v ≡ w = cc in ap is_absent (sym same) ∙ there

none_there : (e : _) → There (Err e)
none_there e v is = cc

then_there : {A : Type 0} (r : Read A) (g : A → Read ValueView) → ((x : A) → There (g x)) → There (r >>= g)
then_there (Ok x) g there = there x
then_there (Err e) g there = none_there e

if_there : (b : Bool) (r s : Read ValueView) → There r → There s → There (if b then r else s)
if_there true r s first second = first
if_there false r s first second = second

nat_there : (z : ℤ) → There (nat_of z)
nat_there (pos n) = if_there (nat_lt n (2 ^ 32)) _ _ (is_there (nat n) refl) (none_there _)
nat_there (negsuc n) = none_there _

flag_there : (b : Option Bool) → There (flag_of b)
flag_there None = none_there _
flag_there (Some true) = is_there truth refl
flag_there (Some false) = none_there _

plain_there : (T : Shape) (d : Data) → There (plain T d)
plain_there type.int d = then_there (whole_in d) int_of (λ z. if_there (is_signed (2 ^ 31) z) _ _ (is_there (int z) refl) (none_there _))
plain_there type.long d = then_there (whole_in d) long_of (λ z. if_there (is_signed (2 ^ 63) z) _ _ (is_there (long z) refl) (none_there _))
plain_there type.nat d = then_there (whole_in d) nat_of nat_there
plain_there (type.opaque k) d = then_there (digits_of d) (opaque_of k) (λ s. if_there (length s == k) _ _ (is_there (opaque s) refl) (none_there _))
plain_there str d = then_there (string_of d) _ (λ s. is_there (text s) refl)
plain_there raw d = then_there (digits_of d) _ (λ s. is_there (text s) refl)
plain_there flag d = flag_there (as_bool d)
plain_there type.call d = none_there _
plain_there (var i) d = none_there _
plain_there (vector is_boxed T) d = none_there _
plain_there (boxed h args) d = none_there _
plain_there (bare i args) d = none_there _

record_there : (T : Shape) (i : ℕ) (vs : ValueViews) → is_absent (record_value T i vs) ≡ false
record_there type.int i vs = refl
record_there type.long i vs = refl
record_there type.nat i vs = refl
record_there (type.opaque k) i vs = refl
record_there str i vs = refl
record_there raw i vs = refl
record_there flag i vs = refl
record_there type.call i vs = refl
record_there (var k) i vs = refl
record_there (vector is_boxed T) i vs = refl
record_there (boxed h args) i vs = refl
record_there (bare k args) i vs = refl

declaration_there : (ds : List Declaration) (T : Shape) (ms : Members) (ps : Parts) (o : Option ℕ) → There (of_declaration ds T ms ps o)
declaration_there ds T ms ps None = none_there _
declaration_there ds T ms ps (Some i) = then_there (all_fields (arguments_of T) (fields_in (slice_get ds i)) ms ps) _ (λ vs. is_there (record_value T i (values_of vs)) (record_there T i (values_of vs)))

array_there : (rs : List Reader) (T : Shape) → There (of_array rs T)
array_there rs (vector is_boxed T) = then_there (each_element 0 T [] rs) _ (λ vs. is_there (list (values_of vs)) refl)
array_there rs type.int = none_there _
array_there rs type.long = none_there _
array_there rs type.nat = none_there _
array_there rs (type.opaque k) = none_there _
array_there rs str = none_there _
array_there rs raw = none_there _
array_there rs flag = none_there _
array_there rs type.call = none_there _
array_there rs (var k) = none_there _
array_there rs (boxed h args) = none_there _
array_there rs (bare k args) = none_there _

reader_there : (ds : List Declaration) (d : Data) (T : Shape) → There (reader ds d T)
reader_there ds null T = plain_there T null
reader_there ds (boolean b) T = plain_there T (boolean b)
reader_there ds (number n) T = plain_there T (number n)
reader_there ds (string s) T = plain_there T (string s)
reader_there ds (array is) T = array_there (readers ds is) T
reader_there ds (object ms) T = if_there (is_record T) _ _ (declaration_there ds T ms (parts ds ms) (declaration_of ds T ms)) (plain_there T (object ms))

-- ---- counts

abbrev there : List ValueView → ℕ
there [] = 0
there (v ∷ vs) = one_if (not (is_absent v)) + there vs

there_push : (vs : List ValueView) (v : ValueView) → there (vs ++ v ∷ []) ≡ there vs + one_if (not (is_absent v))
there_push [] v = omega arith
there_push (w ∷ vs) v = let later = there_push vs v in omega (arith, later)

cond_one : (b : Bool) → cond b 1 0 ≡ one_if b
cond_one true = refl
cond_one false = refl

counted : (vs : List Value) → count_by (λ v. not (is_absent (view v))) vs ≡ there (map view vs)
counted [] = refl
counted (v ∷ vs) =
    let first = sum_by-cons (λ (w : Value). cond (not (is_absent (view w))) 1 0) v vs in
    let one = cond_one (not (is_absent (view v))) in
    let later = counted vs in
    omega (arith, first, one, later)

bound : {A B : Type 0} (r : Read A) (g : A → Read B) (y : B) → (r >>= g) ≡ Ok y → (x : A) × (r ≡ Ok x) × (g x ≡ Ok y)
bound (Ok x) g y is = (x, refl, is)
bound (Err e) g y is = cc

inside_ok : {A : Type 0} (i : ℕ) (r : Read A) (x : A) → inside i r ≡ Ok x → r ≡ Ok x
inside_ok i (Ok y) x is = is
inside_ok i (Err e) x is = cc

not_there_absent : (c : Option (ℕ × ℕ)) (v : ValueView) → not_there c ≡ Ok v → is_absent v ≡ true
not_there_absent None v is = cc
not_there_absent (Some c) v is = ap (λ (r : Read ValueView). elim r as (λ _. Bool) [ Ok w ↦ is_absent w | Err e ↦ true ]) (sym is)

field_there : (ds : List Declaration) (args : List Shape) (f : Slot) (o : Option Data) (v : ValueView) → one_field args f (option_map (reader ds) o) ≡ Ok v → not (is_absent v) ≡ is_some o
field_there ds args f None v is = ap not (not_there_absent f.cond v is)
field_there ds args f (Some d) v is = ap not (reader_there ds d (closed args f.of) v is)

abbrev names : List Slot → List (List ℕ)
names fs = map (λ (f : Slot). name_text f.name) fs

fields_counted : (ds : List Declaration) (ms : Members) (args : List Shape) (i : ℕ) (before : List ValueView) (fs : List Slot) (vs : List ValueView)
    → each_field i args before fs (parts ds ms) ≡ Ok vs → there vs ≡ there before + held (names fs) ms
fields_counted ds ms args i before [] vs is = let same : before ≡ vs = cc in let sums = ap there same in omega (arith, sums)
fields_counted ds ms args i before (f ∷ fs) vs is =
    let rest : ValueView → Read (List ValueView) = λ v. each_field (suc i) args (before ++ v ∷ []) fs (parts ds ms) in
    let b = bound (inside i (one_field args f (lookup (bytes_eq (name_text f.name)) (parts ds ms)))) rest vs is in
    let later = fields_counted ds ms args (suc i) (before ++ b.0 ∷ []) fs vs b.2 in
    let here = field_there ds args f (get_member (name_text f.name) ms) b.0 (ap (one_field args f) (sym (part_at ds (name_text f.name) ms)) ∙ inside_ok i _ b.0 b.1) in
    let one = ap one_if here in
    let push = there_push before b.0 in
    omega (arith, later, one, push)

-- ---- the whole record

some_member : (o : Option Data) → is_some (option_and_then as_str o) ≡ true → is_some o ≡ true
some_member None is = is
some_member (Some d) is = refl

-- where as many fields are there as there are keys beside `_`, no key is another
pub filled : (ds : List Declaration) (args : List Shape) (fs gs : List Slot) (ms : Members) (n : ℕ) (res : Result (Vec Value Global) FormFault) → gs ≡ fs → n ≡ members_len ms
    → AreApart (record_keys fs) → is_some (text_at (codes "_") ms) ≡ true → Tells (λ vs. map view vs.items) (each_field 0 args [] gs (parts ds ms)) res
    → IsOkAnd res (λ vs. count_by (λ v. not (is_absent (view v))) vs.items ≡ n - 1) → Tells (λ vs. map view vs.items) (all_fields args fs ms (parts ds ms)) res
filled ds args fs gs ms n (Err fault) same total apart named tells counts = absurd counts
filled ds args fs gs ms n (Ok vs) same total apart named tells counts =
    let read = ap (λ hs. each_field 0 args [] hs (parts ds ms)) (sym same) ∙ tells in
    let fields = fields_counted ds ms args 0 [] fs (map view vs.items) read in
    let name = ap one_if (some_member (get_member (codes "_") ms) named) in
    let few = held_within (record_keys fs) ms apart in
    let sums = counted vs.items in
    let none = no_other (record_keys fs) ms apart (omega (arith, fields, name, few, sums, counts, total)) in
    rw none read
