-- Values, lists and objects straight from their tokens.
use Rattle.std.proofs.Common.{◌≡◌, ℕ, ◌-◌, ◌<◌, ◌≤◌, List, [], ◌∷◌, length, map, Bool, true, false, Option, Some, None, Result, Ok, Err, option_map, codes, if◌then◌else◌, sym, ap, subst, ◌∙◌, arith}
use Rattle.std.specs.Prelude.{IfOk}
use Rattle.json.specs.Token.{Token}
use Rattle.json.specs.Json.{items, members, parse_map, read_key, value}
use Rattle.json.proofs.Grammar.{value_is, value-begin_array, value-begin_object, read_key-shorter}
use Rattle.serde_json.specs.Data.{Data, Items, Members, Num, array, boolean, member, no_members, number, object, put, string}
use Rattle.serde_json.specs.Read.{converted, number_of, of_items, of_json}
use Rattle.tl_schema.specs.Types.{Shape, vector}
use Rattle.tl_schema.specs.Schemas.{Declaration}
use Rattle.tl_types.specs.Values.{ValueView, list, values_of}
use Rattle.tl_types.specs.Seen.{view}
use Rattle.tl_types.specs.declared.value.Value.{Value}
use Rattle.tl_show.specs.Reading.{Read, ◌>>=◌, each_element, is_record, of_record, parts, plain, read, readers}
use Rattle.tl_show.specs.inner.Direct.{BeginsWith, GoesOnTo, HoldsAfter, HoldsRecord}
use Rattle.tl_show.proofs.JsonTurns.{converted-array, converted-object, member_read}

-- ---- values of one token

number_reads : (ds : List Declaration) (T : Shape) (o : Option Num) (d : Data) (v : ValueView) → option_map number o ≡ Some d → plain T d ≡ Ok v → read ds T d ≡ Ok v
number_reads ds T None d v e is = absurd cc
number_reads ds T (Some n) d v e is =
    let same : number n ≡ d = cc in
    subst (λ (x : Data). read ds T x ≡ Ok v) same (subst (λ (x : Data). plain T x ≡ Ok v) (sym same) is)

module _ (ds : List Declaration) (T : Shape) (depth : ℕ) (old new : List Token) where
  abbrev Begins : {E : Type 0} → Result Value E → Type 0
  Begins r = IfOk r (λ v. BeginsWith ds T depth old new (view v))

  pub number_begins : {E : Type 0} (text : List ℕ) (r : Result Value E) → old ≡ Token.number text ∷ new → IfOk r (λ v. (d : Data) × (option_map number (number_of text) ≡ Some d) × (plain T d ≡ Ok (view v))) → Begins r
  number_begins text (Ok v) is tells =
      (tells.0, ap (converted of_json) (ap (value depth) is ∙ value_is depth _) ∙ ap (option_map (λ d. (d, new))) tells.1, number_reads ds T (number_of text) tells.0 (view v) tells.1 tells.2)
  number_begins text (Err e) is tells = tt

  pub text_begins : {E : Type 0} (text : List ℕ) (r : Result Value E) → old ≡ Token.string text ∷ new → IfOk r (λ v. plain T (string text) ≡ Ok (view v)) → Begins r
  text_begins text (Ok v) is tells = (string text, ap (converted of_json) (ap (value depth) is ∙ value_is depth _), tells)
  text_begins text (Err e) is tells = tt

  pub bool_begins : {E : Type 0} (b : Bool) (d : Data) (r : Result Value E) → old ≡ Token.boolean b ∷ new → d ≡ boolean b → IfOk r (λ v. plain T d ≡ Ok (view v)) → Begins r
  bool_begins b d (Ok v) is seen tells = (boolean b, ap (converted of_json) (ap (value depth) is ∙ value_is depth _), subst (λ (x : Data). plain T x ≡ Ok (view v)) seen tells)
  bool_begins b d (Err e) is seen tells = tt

  pub begins_same : {E : Type 0} (mid : List Token) (r : Result Value E) → old ≡ mid → IfOk r (λ v. BeginsWith ds T depth mid new (view v)) → Begins r
  begins_same mid r is tells = subst (λ (ts : List Token). IfOk r (λ v. BeginsWith ds T depth ts new (view v))) (sym is) tells

-- ---- lists and objects

pub list_begins : (ds : List Declaration) (T U : Shape) (wide : Bool) (depth : ℕ) (old new : List Token) (is : Items) (vs : List Value) (v : ValueView) → T ≡ vector wide U → 0 < depth
    → converted of_items (items (value (depth - 1)) (length old) old) ≡ Some (is, new) → each_element 0 U [] (readers ds is) ≡ Ok (map view vs) → v ≡ list (values_of (map view vs)) → BeginsWith ds T depth (Token.begin_array ∷ old) new v
list_begins ds T U wide depth old new is vs v of some items_read reads seen =
    let opened = ap (converted of_json) (value-begin_array depth old some) ∙ converted-array (items (value (depth - 1)) (length old) old) in
    let whole = ap (λ (r : Read (List ValueView)). r >>= λ xs. Ok (list (values_of xs))) reads in
    (array is, opened ∙ ap (parse_map array) items_read, ap (λ (S : Shape). read ds S (array is)) of ∙ whole ∙ ap (λ (x : ValueView). Ok x) (sym seen))

module _ (ds : List Declaration) (T : Shape) (depth : ℕ) (old new : List Token) (some : 0 < depth) where
  opened : (ms : Members) → GoesOnTo (depth - 1) (length old) old no_members new ms → converted of_json (value depth (Token.begin_object ∷ old)) ≡ Some (object ms, new)
  opened ms goes = ap (converted of_json) (value-begin_object depth old some) ∙ converted-object (members (value (depth - 1)) (length old) old) ∙ ap (parse_map object) goes

  pub record_begins : {E : Type 0} (r : Result Value E) → is_record T ≡ true → IfOk r (λ v. HoldsRecord ds T (depth - 1) (length old) old new (view v)) → IfOk r (λ v. BeginsWith ds T depth (Token.begin_object ∷ old) new (view v))
  record_begins (Ok v) is holds = (object holds.0, opened holds.0 holds.1, rw is holds.2)
  record_begins (Err e) is holds = tt

  pub object_begins : {E : Type 0} (ms : Members) (d : Data) (r : Result Value E) → is_record T ≡ false → GoesOnTo (depth - 1) (length old) old no_members new ms → d ≡ object ms → IfOk r (λ v. plain T d ≡ Ok (view v))
      → IfOk r (λ v. BeginsWith ds T depth (Token.begin_object ∷ old) new (view v))
  object_begins ms d (Ok v) is goes seen tells = (object ms, opened ms goes, rw is (subst (λ (x : Data). plain T x ≡ Ok (view v)) seen tells))
  object_begins ms d (Err e) is goes seen tells = tt

-- ---- the first key of a record

pub after_key : {E : Type 0} (ds : List Declaration) (T : Shape) (depth : ℕ) (k : List ℕ) (ts old new : List Token) (r : Result Value E) → read_key ts ≡ Some (Some k, old) → IfOk r (λ v. HoldsAfter ds T depth k old new (view v))
    → IfOk r (λ v. HoldsRecord ds T depth (length ts) ts new (view v))
after_key ds T depth k ts old new (Ok v) key holds = holds ts (length ts) key (omega arith)
after_key ds T depth k ts old new (Err e) key holds = tt

pub name_first : (ds : List Declaration) (T : Shape) (depth : ℕ) (name : List ℕ) (old rest new : List Token) (v : ValueView) → old ≡ Token.string name ∷ rest
    → ((n : ℕ) → length rest ≤ n → (ms : Members) × GoesOnTo depth n rest (member (codes "_") (string name) no_members) new ms × (of_record ds ms (parts ds ms) T ≡ Ok v)) → HoldsAfter ds T depth (codes "_") old new v
name_first ds T depth name old rest new v is goes = λ ts n key enough.
    let less = read_key-shorter ts (Some (codes "_")) old key in
    let long = ap (λ (xs : List Token). length xs) is in
    let named : converted of_json (value depth old) ≡ Some (string name, rest) = ap (converted of_json) (ap (value depth) is ∙ value_is depth _) in
    let turn = member_read (value depth) no_members n (codes "_") ts old rest (string name) (omega (arith, less, enough)) key named in
    let found = goes (n - 1) (omega (arith, less, enough, long)) in
    (found.0, turn ∙ found.1, found.2)

pub other_first : (ds : List Declaration) (T : Shape) (depth : ℕ) (k : List ℕ) (old rest new : List Token) (d : Data) (first all : Members) (v : ValueView) → converted of_json (value depth old) ≡ Some (d, rest) → length rest < length old
    → first ≡ put k d no_members → ((n : ℕ) → length rest ≤ n → GoesOnTo depth n rest first new all) → of_record ds all (parts ds all) T ≡ Ok v → HoldsAfter ds T depth k old new v
other_first ds T depth k old rest new d first all v read_first shorter is goes reads = λ ts n key enough.
    let less = read_key-shorter ts (Some k) old key in
    let turn = member_read (value depth) no_members n k ts old rest d (omega (arith, less, enough)) key read_first in
    let found = subst (λ (ms : Members). GoesOnTo depth (n - 1) rest ms new all) is (goes (n - 1) (omega (arith, less, enough, shorter))) in
    (all, turn ∙ found, reads)

pub record_of_tree : (ds : List Declaration) (T : Shape) (ms : Members) (d : Data) (v : ValueView) → d ≡ object ms → is_record T ≡ true → read ds T d ≡ Ok v → of_record ds ms (parts ds ms) T ≡ Ok v
record_of_tree ds T ms d v seen is reads =
    sym (ap (λ (b : Bool). if b then of_record ds ms (parts ds ms) T else plain T (object ms)) is) ∙ subst (λ (x : Data). read ds T x ≡ Ok v) seen reads
