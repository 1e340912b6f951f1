-- The value that JSON of texts of bytes is read to has texts of bytes.
use Rattle.std.proofs.Common.{◌≡◌, ℕ, suc, ◌+◌, ◌*◌, ◌<◌, ◌==◌, ◌&&◌, ℤ, pos, negsuc, List, [], ◌∷◌, ◌++◌, length, Bool, true, false, cond, Option, Some, None, Result, Ok, Err, refl, subst, codes, arith}
use Rattle.std.proofs.lemmas.Bool.{and_parts, leb-true}
use Rattle.std.specs.Prelude.{⊤, nat_le, bytes_eq, slice_get, if◌then◌else◌}
use Rattle.std.specs.List.{AllByRecursion}
use Rattle.std.specs.Map.{lookup}
use Rattle.hex.specs.Hex.{decode_of, decode_pairs, digit_or_error, hex_digit_value, pair_value, value_at}
use Rattle.hex.specs.Hex as hex
use Rattle.hex.specs.declared.error.FromHexError.{FromHexError}
use Rattle.serde_json.specs.Data.{Data, null, boolean, number, string, array, object, Items, no_items, item, Members, no_members, member}
use Rattle.serde_json.specs.Events.{members_len}
use Rattle.serde_json.specs.Find.{as_bool, as_str}
use Rattle.tl_numbers.specs.Bytes.{AreBytes}
use Rattle.tl_schema.specs.Types.{Shape, str, raw, flag, vector, boxed, bare}
use Rattle.tl_schema.specs.Types as type
use Rattle.tl_schema.specs.Closing.{closed}
use Rattle.tl_schema.specs.Schemas.{Slot, Declaration}
use Rattle.tl_types.specs.Parts.{arguments_of, fields_in}
use Rattle.tl_types.specs.Values.{ValueView, ValueViews, values_of}
use Rattle.tl_types.specs.Values as view
use Rattle.tl_show.specs.declared.fault.FormCause.TheVariants.{WrongJson, ExtraField}
use Rattle.tl_show.specs.Reading.{refuses, all_fields, bytes_in, bytes_of, declaration_of, digits_of, each_element, each_field, flag_of, has_other, in_range, inside, int_of, long_of, nat_of, not_there, of_array, of_declaration, of_kind, one_field, opaque_of, parts, Parts, plain, Read, read, reader, Reader, readers, record_keys, record_value, string_of, text_at, whole_in, ◌>>=◌}
use Rattle.tl_show.specs.Shown.{name_text}
use Rattle.session_commands.proofs.JsonBytes.{no_bytes, one_more_byte, Held, DataHolds, ItemsHold, PartsHold}
use Rattle.session_commands.proofs.SpelledBytes.{ValueHolds, ValuesHold}

-- ---- digits

record Below (bound : ℕ) (o : Option ℕ) : Type 0 where
  below : Held (λ n. n < bound) o

below_if : (b : Bool) {bound : ℕ} {x y : Option ℕ} → (b ≡ true → Below bound x) → (b ≡ false → Below bound y) → Below bound (cond b x y)
below_if true set clear = set refl
below_if false set clear = clear refl

digit_below : (c : ℕ) → Below 16 (hex_digit_value c)
digit_below c =
    below_if (nat_le 65 c && nat_le c 70) (λ e. record { below = omega (arith, leb-true 65 c (and_parts _ _ e).0, leb-true c 70 (and_parts _ _ e).1) })
    (λ _. below_if (nat_le 97 c && nat_le c 102) (λ e. record { below = omega (arith, leb-true 97 c (and_parts _ _ e).0, leb-true c 102 (and_parts _ _ e).1) })
    (λ _. below_if (nat_le 48 c && nat_le c 57) (λ e. record { below = omega (arith, leb-true 48 c (and_parts _ _ e).0, leb-true c 57 (and_parts _ _ e).1) }) (λ _. record { below = tt })))

abbrev Decodes : {A : Type 0} → (A → Type 0) → Result A FromHexError → Type 0
Decodes P (Ok x) = P x
Decodes P (Err e) = ⊤

then_decodes : {A B : Type 0} (P : A → Type 0) (Q : B → Type 0) (f : A → Result B FromHexError) (r : Result A FromHexError) → Decodes P r → ((x : A) → P x → Decodes Q (f x)) → Decodes Q (hex.◌>>=◌ r f)
then_decodes P Q f (Ok x) h more = more x h
then_decodes P Q f (Err e) h more = tt

abbrev IsDigit : ℕ → Type 0
IsDigit n = n < 16

abbrev IsByte : ℕ → Type 0
IsByte n = n < 256

digit_decodes : (c i : ℕ) (o : Option ℕ) → Held IsDigit o → Decodes IsDigit (digit_or_error c i o)
digit_decodes c i None h = tt
digit_decodes c i (Some n) h = h

digit_at : (c i : ℕ) → Decodes IsDigit (value_at c i)
digit_at c i = digit_decodes c i (hex_digit_value c) (digit_below c).below

pair_decodes : (high low i : ℕ) → Decodes IsByte (pair_value high low i)
pair_decodes high low i =
    then_decodes IsDigit IsByte _ (value_at high i) (digit_at high i)
    (λ h few. then_decodes IsDigit IsByte (λ l. Ok (h * 16 + l)) (value_at low (i + 1)) (digit_at low (i + 1)) (λ l less. omega (arith, few, less)))

pairs_decode : (i : ℕ) (digits : List ℕ) → Decodes AreBytes (decode_pairs i digits)
unfolding decode_pairs
pairs_decode i [] = no_bytes
pairs_decode i (digit ∷ []) = tt
pairs_decode i (high ∷ low ∷ rest) =
    then_decodes IsByte AreBytes _ (pair_value high low i) (pair_decodes high low i)
    (λ b few. then_decodes AreBytes AreBytes (λ bytes. Ok (b ∷ bytes)) (decode_pairs (i + 2) rest) (pairs_decode (i + 2) rest) (λ bytes are. one_more_byte b bytes few are))

decoded_if : (b : Bool) (e : FromHexError) (r : Result (List ℕ) FromHexError) → Decodes AreBytes r → Decodes AreBytes (if b then Err e else r)
decoded_if true e r h = tt
decoded_if false e r h = h

-- ---- what is read

abbrev Gives : {A : Type 0} → (A → Type 0) → Read A → Type 0
Gives P (Ok x) = P x
Gives P (Err f) = ⊤

then_gives : {A B : Type 0} (P : A → Type 0) (Q : B → Type 0) (f : A → Read B) (r : Read A) → Gives P r → ((x : A) → P x → Gives Q (f x)) → Gives Q (r >>= f)
then_gives P Q f (Ok x) h more = more x h
then_gives P Q f (Err e) h more = tt

abbrev GivesValue : Read ValueView → Type 0
GivesValue r = Gives ValueHolds r

abbrev IsAny : {A : Type 0} → A → Type 0
IsAny x = ⊤

any : {A : Type 0} (r : Read A) → Gives IsAny r
any (Ok x) = tt
any (Err e) = tt

bytes_given : (r : Result (List ℕ) FromHexError) → Decodes AreBytes r → Gives AreBytes (bytes_in r)
bytes_given (Ok bytes) h = h
bytes_given (Err e) h = tt

digits_give : (digits : List ℕ) → Gives AreBytes (bytes_of digits)
digits_give digits = bytes_given (decode_of digits) (decoded_if _ _ (decode_pairs 0 digits) (pairs_decode 0 digits))

digit_text : (d : Data) → Gives AreBytes (digits_of d)
digit_text d = then_gives IsAny AreBytes bytes_of (of_kind (as_str d)) (any _) (λ digits _. digits_give digits)

hex_gives_if : (b : Bool) (ms : Members) → Gives AreBytes (if b then (of_kind (text_at (codes "hex") ms) >>= bytes_of) else refuses WrongJson)
hex_gives_if true ms = then_gives IsAny AreBytes bytes_of (of_kind (text_at (codes "hex") ms)) (any _) (λ digits _. digits_give digits)
hex_gives_if false ms = tt

string_gives : (d : Data) → DataHolds d → Gives AreBytes (string_of d)
string_gives (string s) h = h
string_gives (object ms) h = hex_gives_if (members_len ms == 1) ms
string_gives null h = tt
string_gives (boolean b) h = tt
string_gives (number n) h = tt
string_gives (array ds) h = tt

range_gives : (b : Bool) (v : ValueView) → ValueHolds v → GivesValue (in_range b v)
range_gives true v h = h
range_gives false v h = tt

nat_gives : (z : ℤ) → GivesValue (nat_of z)
nat_gives (pos n) = range_gives _ (view.nat n) tt
nat_gives (negsuc n) = tt

opaque_gives_if : (b : Bool) (bytes : List ℕ) → AreBytes bytes → GivesValue (if b then Ok (view.opaque bytes) else refuses WrongJson)
opaque_gives_if true bytes h = h
opaque_gives_if false bytes h = tt

flag_gives : (o : Option Bool) → GivesValue (flag_of o)
flag_gives None = tt
flag_gives (Some true) = tt
flag_gives (Some false) = tt

plain_gives : (T : Shape) (d : Data) → DataHolds d → GivesValue (plain T d)
plain_gives type.int d h = then_gives IsAny ValueHolds int_of (whole_in d) (any _) (λ z _. range_gives _ (view.int z) tt)
plain_gives type.long d h = then_gives IsAny ValueHolds long_of (whole_in d) (any _) (λ z _. range_gives _ (view.long z) tt)
plain_gives type.nat d h = then_gives IsAny ValueHolds nat_of (whole_in d) (any _) (λ z _. nat_gives z)
plain_gives (type.opaque k) d h = then_gives AreBytes ValueHolds (opaque_of k) (digits_of d) (digit_text d) (λ bytes are. opaque_gives_if (length bytes == k) bytes are)
plain_gives str d h = then_gives AreBytes ValueHolds (λ s. Ok (view.text s)) (string_of d) (string_gives d h) (λ s are. are)
plain_gives raw d h = then_gives AreBytes ValueHolds (λ s. Ok (view.text s)) (digits_of d) (digit_text d) (λ s are. are)
plain_gives flag d h = flag_gives (as_bool d)
plain_gives (type.var i) d h = tt
plain_gives (vector is_boxed T) d h = tt
plain_gives (boxed i args) d h = tt
plain_gives (bare i args) d h = tt
plain_gives type.call d h = tt

-- ---- parts

abbrev AllHold : List ValueView → Type 0
AllHold vs = AllByRecursion ValueHolds vs

abbrev ReaderHolds : Reader → Type 0
ReaderHolds r = (T : Shape) → GivesValue (r T)

abbrev ReadersHold : List Reader → Type 0
ReadersHold rs = AllByRecursion ReaderHolds rs

abbrev PartHolds : List ℕ × Reader → Type 0
PartHolds p = ReaderHolds p.1

abbrev AllPartsHold : Parts → Type 0
AllPartsHold ps = AllByRecursion PartHolds ps

gives_inside : {A : Type 0} (P : A → Type 0) (i : ℕ) (r : Read A) → Gives P r → Gives P (inside i r)
gives_inside P i (Ok x) h = h
gives_inside P i (Err f) h = tt

one_more : (vs : List ValueView) (v : ValueView) → AllHold vs → ValueHolds v → AllHold (vs ++ v ∷ [])
one_more [] v all h = (h, tt)
one_more (u ∷ vs) v all h = (all.0, one_more vs v all.1 h)

values_hold : (vs : List ValueView) → AllHold vs → ValuesHold (values_of vs)
values_hold [] all = tt
values_hold (v ∷ vs) all = (all.0, values_hold vs all.1)

elements_give : (i : ℕ) (T : Shape) (before : List ValueView) (rs : List Reader) → AllHold before → ReadersHold rs → Gives AllHold (each_element i T before rs)
elements_give i T before [] all h = all
elements_give i T before (r ∷ rs) all h =
    then_gives ValueHolds AllHold (λ v. each_element (suc i) T (before ++ v ∷ []) rs) (inside i (r T)) (gives_inside ValueHolds i (r T) (h.0 T))
    (λ v x. elements_give (suc i) T (before ++ v ∷ []) rs (one_more before v all x) h.1)

array_gives : (rs : List Reader) → ReadersHold rs → ReaderHolds (of_array rs)
array_gives rs h (vector is_boxed T) = then_gives AllHold ValueHolds (λ vs. Ok (view.list (values_of vs))) (each_element 0 T [] rs) (elements_give 0 T [] rs tt h) (λ vs all. values_hold vs all)
array_gives rs h type.int = tt
array_gives rs h type.long = tt
array_gives rs h type.nat = tt
array_gives rs h (type.opaque k) = tt
array_gives rs h str = tt
array_gives rs h raw = tt
array_gives rs h flag = tt
array_gives rs h (type.var i) = tt
array_gives rs h (boxed i args) = tt
array_gives rs h (bare i args) = tt
array_gives rs h type.call = tt

found_if : (b : Bool) (r : Reader) (o : Option Reader) → ReaderHolds r → Held ReaderHolds o → Held ReaderHolds (cond b (Some r) o)
found_if true r o h rest = h
found_if false r o h rest = rest

found : (test : List ℕ → Bool) (ps : Parts) → AllPartsHold ps → Held ReaderHolds (lookup test ps)
found test [] h = tt
found test (p ∷ ps) h = found_if (test p.0) p.1 (lookup test ps) h.0 (found test ps h.1)

absent_gives : (o : Option (ℕ × ℕ)) → GivesValue (not_there o)
absent_gives None = tt
absent_gives (Some cond) = tt

field_gives : (args : List Shape) (f : Slot) (o : Option Reader) → Held ReaderHolds o → GivesValue (one_field args f o)
field_gives args f None h = absent_gives f.cond
field_gives args f (Some r) h = h (closed args f.of)

fields_give : (i : ℕ) (args : List Shape) (before : List ValueView) (fs : List Slot) (ps : Parts) → AllHold before → AllPartsHold ps → Gives AllHold (each_field i args before fs ps)
fields_give i args before [] ps all h = all
fields_give i args before (f ∷ fs) ps all h =
    let r = one_field args f (lookup (bytes_eq (name_text f.name)) ps) in
    then_gives ValueHolds AllHold (λ v. each_field (suc i) args (before ++ v ∷ []) fs ps) (inside i r) (gives_inside ValueHolds i r (field_gives args f (lookup (bytes_eq (name_text f.name)) ps) (found (bytes_eq (name_text f.name)) ps h)))
    (λ v x. fields_give (suc i) args (before ++ v ∷ []) fs ps (one_more before v all x) h)

all_fields_give_if : (b : Bool) (r : Read (List ValueView)) → Gives AllHold r → Gives AllHold (if b then refuses ExtraField else r)
all_fields_give_if true r h = tt
all_fields_give_if false r h = h

record_holds : (T : Shape) (i : ℕ) (vs : ValueViews) → ValuesHold vs → ValueHolds (record_value T i vs)
record_holds type.call i vs h = h
record_holds type.int i vs h = h
record_holds type.long i vs h = h
record_holds type.nat i vs h = h
record_holds (type.opaque k) i vs h = h
record_holds str i vs h = h
record_holds raw i vs h = h
record_holds flag i vs h = h
record_holds (type.var j) i vs h = h
record_holds (vector is_boxed T) i vs h = h
record_holds (boxed j args) i vs h = h
record_holds (bare j args) i vs h = h

declaration_gives : (ds : List Declaration) (T : Shape) (ms : Members) (ps : Parts) (o : Option ℕ) → AllPartsHold ps → GivesValue (of_declaration ds T ms ps o)
declaration_gives ds T ms ps None h = tt
declaration_gives ds T ms ps (Some i) h =
    let fs = fields_in (slice_get ds i) in
    then_gives AllHold ValueHolds (λ vs. Ok (record_value T i (values_of vs))) (all_fields (arguments_of T) fs ms ps)
    (all_fields_give_if (has_other (record_keys fs) ms) (each_field 0 (arguments_of T) [] fs ps) (fields_give 0 (arguments_of T) [] fs ps tt h)) (λ vs all. record_holds T i (values_of vs) (values_hold vs all))

object_gives_if : (b : Bool) (x y : Read ValueView) → GivesValue x → GivesValue y → GivesValue (if b then x else y)
object_gives_if true x y h k = h
object_gives_if false x y h k = k

-- ---- values

module _ (ds : List Declaration) where
  mutual
    reader_holds : (d : Data) → DataHolds d → ReaderHolds (reader ds d)
    reader_holds null h T = plain_gives T null h
    reader_holds (boolean b) h T = plain_gives T (boolean b) h
    reader_holds (number n) h T = plain_gives T (number n) h
    reader_holds (string s) h T = plain_gives T (string s) h
    reader_holds (array is) h T = array_gives (readers ds is) (readers_hold is h) T
    reader_holds (object ms) h T = object_gives_if _ _ _ (declaration_gives ds T ms (parts ds ms) (declaration_of ds T ms) (parts_hold ms h)) (plain_gives T (object ms) h)

    readers_hold : (is : Items) → ItemsHold is → ReadersHold (readers ds is)
    readers_hold no_items h = tt
    readers_hold (item d is) h = (reader_holds d h.0, readers_hold is h.1)

    parts_hold : (ms : Members) → PartsHold ms → AllPartsHold (parts ds ms)
    parts_hold no_members h = tt
    parts_hold (member k d ms) h = (reader_holds d h.0, parts_hold ms h.1)

  pub read_value_holds : (T : Shape) (d : Data) (v : ValueView) → DataHolds d → read ds T d ≡ Ok v → ValueHolds v
  read_value_holds T d v h is = subst GivesValue is (reader_holds d h T)
