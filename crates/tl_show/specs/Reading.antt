-- Values from JSON, by their types: what reads the form that showing gives. This project's own.
use Rattle.std.specs.Prelude.{◌≡◌, ℕ, suc, ◌-◌, ◌^◌, min, ◌==◌, nat_lt, ℤ, pos, negsuc, List, [], ◌∷◌, ◌++◌, length, map, Bool, true, false, not, ◌&&◌, ◌||◌, if◌then◌else◌, Option, Some, None, option_and_then, Result, Ok, Err, slice_get, codes, bytes_eq}
use Rattle.std.specs.List.{AllPairs, list_any, position_from}
use Rattle.std.specs.Map.{lookup}
use Rattle.hex.specs.Hex.{decode_of}
use Rattle.hex.specs.declared.error.FromHexError.{FromHexError}
use Rattle.serde_json.specs.Data.{Data, null, boolean, number, string, array, object, Items, no_items, item, Members, no_members, member}
use Rattle.serde_json.specs.Events.{members_len}
use Rattle.serde_json.specs.Find.{as_bool, as_integer, as_number, as_str, get_member}
use Rattle.tl_schema.specs.Types.{Shape, str, raw, flag, vector, boxed, bare}
use Rattle.tl_schema.specs.Types as type
use Rattle.tl_schema.specs.Closing.{closed}
use Rattle.tl_schema.specs.Schemas.{Slot, Declaration}
use Rattle.tl_types.specs.Values.{ValueView, int, long, nat, opaque, text, truth, absent, list, node, call, ValueViews, values_of}
use Rattle.tl_types.specs.Seen.{view}
use Rattle.tl_types.specs.Parts.{arguments_of, fields_in, name_in}
use Rattle.tl_types.specs.Fitting.{constructs, is_signed, misfit}
use Rattle.tl_types.specs.declared.value.TheConstants.{MAX_LEVELS}
use Rattle.tl_types.specs.declared.value.Value.{Value}
use Rattle.tl_show.specs.Shown.{name_text}
use Rattle.tl_show.specs.declared.fault.FormCause.{FormCause}
use Rattle.tl_show.specs.declared.fault.FormCause.TheVariants.{WrongJson, NoSuchName, MissingField, ExtraField, OutOfRange}
use Rattle.tl_show.specs.declared.fault.JsonFault.{JsonFault}
use Rattle.tl_show.specs.declared.fault.JsonFault.TheVariants as fault

-- ---- what is read, or the first fault

-- the indices of the part in its value, that of the outermost first, and the cause
abbrev pub FaultView : Type 0
FaultView = List ℕ × FormCause

abbrev pub Read : Type 0 → Type 0
Read A = Result A FaultView

infixl 10 ◌>>=◌
abbrev pub ◌>>=◌ : {A B : Type 0} → Read A → (A → Read B) → Read B
(Ok x) >>= f = f x
(Err e) >>= f = Err e

abbrev pub refuses : {A : Type 0} → FormCause → Read A
refuses cause = Err ([], cause)

-- an index as a path has it: one past 32 bits is 2^32 - 1
abbrev pub told : ℕ → ℕ
told i = min i (2 ^ 32 - 1)

-- what is read of part i
abbrev pub inside : {A : Type 0} → ℕ → Read A → Read A
inside i (Ok x) = Ok x
inside i (Err f) = Err (told i ∷ f.0, f.1)

-- what there is, if the JSON is of the kind
abbrev pub of_kind : {A : Type 0} → Option A → Read A
of_kind None = refuses WrongJson
of_kind (Some x) = Ok x

-- ---- numbers

-- a whole number; a float is none
abbrev pub whole_in : Data → Read ℤ
whole_in d = of_kind (option_and_then as_integer (as_number d))

abbrev pub in_range : Bool → ValueView → Read ValueView
in_range fits v = if fits then Ok v else refuses OutOfRange

abbrev pub int_of : ℤ → Read ValueView
int_of z = in_range (is_signed (2 ^ 31) z) (int z)

abbrev pub long_of : ℤ → Read ValueView
long_of z = in_range (is_signed (2 ^ 63) z) (long z)

abbrev pub nat_of : ℤ → Read ValueView
nat_of (pos n) = in_range (nat_lt n (2 ^ 32)) (nat n)
nat_of (negsuc n) = refuses OutOfRange

-- ---- texts

abbrev pub bytes_in : Result (List ℕ) FromHexError → Read (List ℕ)
bytes_in (Ok bytes) = Ok bytes
bytes_in (Err e) = refuses WrongJson

-- the bytes of hexadecimal digits of either case
abbrev pub bytes_of : List ℕ → Read (List ℕ)
bytes_of digits = bytes_in (decode_of digits)

-- the bytes of a text of such digits
abbrev pub digits_of : Data → Read (List ℕ)
digits_of d = of_kind (as_str d) >>= bytes_of

abbrev pub opaque_of : ℕ → List ℕ → Read ValueView
opaque_of k bytes = if length bytes == k then Ok (opaque bytes) else refuses WrongJson

-- the text at a key
abbrev pub text_at : List ℕ → Members → Option (List ℕ)
text_at k ms = option_and_then as_str (get_member k ms)

-- the bytes of `{"hex":..}`, which has no other key
abbrev pub hex_of : Members → Read (List ℕ)
hex_of ms = if members_len ms == 1 then of_kind (text_at (codes "hex") ms) >>= bytes_of else refuses WrongJson

-- the bytes of a `string`
abbrev pub string_of : Data → Read (List ℕ)
string_of (string s) = Ok s
string_of (object ms) = hex_of ms
string_of d = refuses WrongJson

-- ---- values without parts

abbrev pub flag_of : Option Bool → Read ValueView
flag_of (Some true) = Ok truth
flag_of b = refuses WrongJson

abbrev pub plain : Shape → Data → Read ValueView
plain type.int d = whole_in d >>= int_of
plain type.long d = whole_in d >>= long_of
plain type.nat d = whole_in d >>= nat_of
plain (type.opaque k) d = digits_of d >>= opaque_of k
plain str d = string_of d >>= λ s. Ok (text s)
plain raw d = digits_of d >>= λ s. Ok (text s)
plain flag d = flag_of (as_bool d)
plain T d = refuses WrongJson

-- ---- lists, where each element is read to a function of its type

abbrev pub Reader : Type 0
Reader = Shape → Read ValueView

-- the elements, counted from i, after those before
abbrev pub each_element : ℕ → Shape → List ValueView → List Reader → Read (List ValueView)
each_element i T before [] = Ok before
each_element i T before (r ∷ rs) = inside i (r T) >>= λ v. each_element (suc i) T (before ++ v ∷ []) rs

abbrev pub of_array : List Reader → Reader
of_array rs (vector is_boxed T) = each_element 0 T [] rs >>= λ vs. Ok (list (values_of vs))
of_array rs T = refuses WrongJson

-- ---- records and calls, where each member is read to a function of its type

-- a function of this name, or a constructor
abbrev pub is_named : Bool → List ℕ → Declaration → Bool
is_named true name d = d.function && bytes_eq name (name_text d.name)
is_named false name d = not d.function && bytes_eq name (name_text d.name)

-- declaration i, if it constructs the type h
abbrev pub of_type : List Declaration → ℕ → Option ℕ → Option ℕ
of_type ds h None = None
of_type ds h (Some i) = if constructs h (slice_get ds i) then Some i else None

-- the declaration of this name: a constructor of the type, this bare constructor, or a function
abbrev pub declaration_named : List Declaration → Shape → List ℕ → Option ℕ
declaration_named ds (boxed h args) name = of_type ds h (position_from (is_named false name) 0 ds)
declaration_named ds (bare i args) name = if bytes_eq name (name_text (name_in (slice_get ds i))) then Some i else None
declaration_named ds type.call name = position_from (is_named true name) 0 ds
declaration_named ds T name = None

-- the keys of a record with these fields
abbrev pub record_keys : List Slot → List (List ℕ)
record_keys fs = codes "_" ∷ map (λ f. name_text f.name) fs

-- no two are alike
abbrev pub AreApart : List (List ℕ) → Type 0
AreApart ks = AllPairs (λ j k. bytes_eq j k ≡ false) ks

-- a key is none of these
abbrev pub has_other : List (List ℕ) → Members → Bool
has_other ks no_members = false
has_other ks (member k d ms) = not (list_any (bytes_eq k) ks) || has_other ks ms

-- the members by their keys
abbrev pub Parts : Type 0
Parts = List (List ℕ × Reader)

-- a field without a key isn't there, if it has a condition
abbrev pub not_there : Option (ℕ × ℕ) → Read ValueView
not_there None = refuses MissingField
not_there (Some cond) = Ok absent

abbrev pub one_field : List Shape → Slot → Option Reader → Read ValueView
one_field args f None = not_there f.cond
one_field args f (Some r) = r (closed args f.of)

-- the values of fields, counted from i, after those before
abbrev pub each_field : ℕ → List Shape → List ValueView → List Slot → Parts → Read (List ValueView)
each_field i args before [] ps = Ok before
each_field i args before (f ∷ fs) ps =
    inside i (one_field args f (lookup (bytes_eq (name_text f.name)) ps)) >>= λ v. each_field (suc i) args (before ++ v ∷ []) fs ps

-- the values of all fields, where there is no other key
abbrev pub all_fields : List Shape → List Slot → Members → Parts → Read (List ValueView)
all_fields args fs ms ps = if has_other (record_keys fs) ms then refuses ExtraField else each_field 0 args [] fs ps

-- a call of declaration i, or a record
abbrev pub record_value : Shape → ℕ → ValueViews → ValueView
record_value type.call i vs = call i vs
record_value T i vs = node i vs

abbrev pub of_declaration : List Declaration → Shape → Members → Parts → Option ℕ → Read ValueView
of_declaration ds T ms ps None = refuses NoSuchName
of_declaration ds T ms ps (Some i) = all_fields (arguments_of T) (fields_in (slice_get ds i)) ms ps >>= λ vs. Ok (record_value T i (values_of vs))

-- the declaration that `_` names
abbrev pub declaration_of : List Declaration → Shape → Members → Option ℕ
declaration_of ds T ms = option_and_then (declaration_named ds T) (text_at (codes "_") ms)

abbrev pub of_record : List Declaration → Members → Parts → Reader
of_record ds ms ps T = of_declaration ds T ms ps (declaration_of ds T ms)

-- the type is of records or calls
abbrev pub is_record : Shape → Bool
is_record (boxed h args) = true
is_record (bare i args) = true
is_record type.call = true
is_record T = false

abbrev pub of_object : List Declaration → Members → Parts → Reader
of_object ds ms ps T = if is_record T then of_record ds ms ps T else plain T (object ms)

-- ---- values

abbrev mutual
  -- what the JSON is read to
  pub reader : List Declaration → Data → Reader
  reader ds null = λ T. plain T null
  reader ds (boolean b) = λ T. plain T (boolean b)
  reader ds (number n) = λ T. plain T (number n)
  reader ds (string s) = λ T. plain T (string s)
  reader ds (array is) = of_array (readers ds is)
  reader ds (object ms) = of_object ds ms (parts ds ms)

  pub readers : List Declaration → Items → List Reader
  readers ds no_items = []
  readers ds (item d is) = reader ds d ∷ readers ds is

  pub parts : List Declaration → Members → Parts
  parts ds no_members = []
  parts ds (member k d ms) = (k, reader ds d) ∷ parts ds ms

-- the value of a type, or the first fault
abbrev pub read : List Declaration → Shape → Data → Read ValueView
read ds T d = reader ds d T

-- ---- answers

-- what is answered is what is read, and its misfit, if there is one; out of memory is free
abbrev pub TellsRead : List Declaration → Shape → Data → Result Value JsonFault → Type 0
TellsRead ds T d (Ok v) = (read ds T d ≡ Ok (view v)) × (misfit ds MAX_LEVELS None T (view v) ≡ None)
TellsRead ds T d (Err (fault.Form path cause)) = read ds T d ≡ Err (path.items, cause)
TellsRead ds T d (Err (fault.Misfit m)) = (v : ValueView) × (read ds T d ≡ Ok v) × (misfit ds MAX_LEVELS None T v ≡ Some (m.path.items, m.cause))
TellsRead ds T d (Err fault.Memory) = Unit {0}
