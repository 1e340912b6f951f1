-- The fields of a record, as they are found at its keys, in any order.
use Rattle.std.proofs.Common.{◌≡◌, ℕ, zero, suc, List, [], ◌∷◌, ◌++◌, length, map, replicate, Bool, true, false, ◌&&◌, ◌||◌, not, is_none, Option, Some, None, Ok, option_map, codes, string_bytes, Ordering, Less, Equal, Greater, nat_cmp, bytes_eq, refl, sym, ap, ap₂, subst, ◌∙◌, append-nil, append_assoc, true≢false, inl, inr}
use Rattle.std.specs.Prelude.{◌⊎◌, IsSomeAnd, option_and_then, slice_get, slice_index_or, slice_set}
use Rattle.std.specs.Cmp.Lexicographic.{slice_cmp}
use Rattle.std.specs.List.{list_any}
use Rattle.std.specs.Ordering.{match_ordering}
use Rattle.std.proofs.lemmas.Bool.{or_parts}
use Rattle.std.proofs.lemmas.List.{length-map, length-replicate}
use Rattle.std.proofs.lemmas.Option.{slice_get_read, slice_get_within}
use Rattle.serde_json.specs.Data.{Data, Members, no_members, member, put, string}
use Rattle.serde_json.specs.Find.{as_str, get_member}
use Rattle.serde_json.proofs.Views.{get_member-put, get_member-put_other}
use Rattle.tl_schema.specs.Types.{Shape}
use Rattle.tl_schema.specs.Closing.{closed}
use Rattle.tl_schema.specs.Schemas.{Slot, Declaration}
use Rattle.tl_types.specs.Values.{ValueView, absent, values_of}
use Rattle.tl_types.specs.Seen.{view, views}
use Rattle.tl_types.specs.Parts.{arguments_of, fields_in, is_absent}
use Rattle.tl_types.specs.declared.value.Value.{Value}
use Rattle.tl_show.specs.Shown.{name_text}
use Rattle.tl_show.specs.Reading.{AreApart, Read, ◌>>=◌, all_fields, declaration_named, declaration_of, each_field, has_other, inside, not_there, of_declaration, of_record, one_field, parts, read, reader, record_keys, record_value}
use Rattle.tl_show.specs.inner.Direct.{FieldIs, FieldsAre, HasFields, lacks, lacks_any}
use Rattle.tl_show.specs.inner.Keyed.{keyed_slot}
use Rattle.tl_show.specs.declared.keyed.KeyedField.{KeyedField}
use Rattle.tl_show.proofs.OtherKeys.{bytes_are, first_apart, rest_apart}
use Rattle.tl_show.proofs.ReadLoops.{part_at}

-- ---- keys

abbrev keys : List KeyedField → List (List ℕ)
keys fs = map (λ (f : KeyedField). string_bytes f.key) fs

field_keys : (fs : List KeyedField) → map (λ (s : Slot). name_text s.name) (map keyed_slot fs) ≡ keys fs
field_keys [] = refl
field_keys (f ∷ fs) = ap₂ (λ (k : List ℕ) (ks : List (List ℕ)). k ∷ ks) (sym f.named) (field_keys fs)

all_keys : (fs : List KeyedField) → record_keys (map keyed_slot fs) ≡ codes "_" ∷ keys fs
all_keys fs = ap (λ (ks : List (List ℕ)). codes "_" ∷ ks) (field_keys fs)

are_apart : (fs : List KeyedField) → AreApart (record_keys (map keyed_slot fs)) → AreApart (codes "_" ∷ keys fs)
are_apart fs apart = subst AreApart (all_keys fs) apart

differ : (x y : List ℕ) → bytes_eq x y ≡ false → x ≡ y → ⊥
differ x y apart is = true≢false (sym (bytes_are x y is) ∙ apart)

differ_back : (x y : List ℕ) → bytes_eq x y ≡ false → y ≡ x → ⊥
differ_back x y apart is = differ x y apart (sym is)

-- the key of a field is one of them
key_there : (fs : List KeyedField) (i : ℕ) (k : List ℕ) → IsSomeAnd (slice_get fs i) (λ f. string_bytes f.key ≡ k) → list_any (bytes_eq k) (keys fs) ≡ true
key_there [] i k is = absurd is
key_there (f ∷ fs) zero k is = ap (λ b. b || list_any (bytes_eq k) (keys fs)) (bytes_are k (string_bytes f.key) (sym is))
key_there (f ∷ fs) (suc i) k is = by (bytes_eq k (string_bytes f.key)) (key_there fs i k is)
  where
    by : (b : Bool) → list_any (bytes_eq k) (keys fs) ≡ true → (b || list_any (bytes_eq k) (keys fs)) ≡ true
    by true there = refl
    by false there = there

-- a key that is none of them differs from that of a field
key_differs : (fs : List KeyedField) (i : ℕ) (j k : List ℕ) → list_any (bytes_eq j) (keys fs) ≡ false → IsSomeAnd (slice_get fs i) (λ f. string_bytes f.key ≡ k) → j ≡ k → ⊥
key_differs fs i j k none is same = true≢false (sym (key_there fs i k is) ∙ ap (λ (x : List ℕ). list_any (bytes_eq x) (keys fs)) (sym same) ∙ none)

-- an object has no other key, where the one that is put is known
other_put : (ks : List (List ℕ)) (k : List ℕ) (d : Data) (ms : Members) → list_any (bytes_eq k) ks ≡ true → has_other ks ms ≡ false → has_other ks (put k d ms) ≡ false
other_put ks k d no_members is none = ap₂ (λ a b. a || b) (ap not is) refl
other_put ks k d (member l e ms) is none =
    let both = or_parts (not (list_any (bytes_eq l) ks)) (has_other ks ms) none in
    by (slice_cmp nat_cmp k l) both.0 (other_put ks k d ms is both.1)
  where
    by : (o : Ordering) → not (list_any (bytes_eq l) ks) ≡ false → has_other ks (put k d ms) ≡ false → has_other ks (match_ordering o (member k d (member l e ms)) (member l d ms) (member l e (put k d ms))) ≡ false
    by Less here later = ap₂ (λ a b. a || b) (ap not is) none
    by Equal here later = none
    by Greater here later = ap₂ (λ a b. a || b) here later

pub filled : (vs : List Value) (fs : List KeyedField) → map view vs ≡ replicate (length fs) absent → length vs ≡ length fs
filled vs fs are = sym (length-map vs view) ∙ ap (λ (xs : List ValueView). length xs) are ∙ length-replicate (length fs) absent

module _ (ds : List Declaration) (args : List Shape) where
  -- ---- before any key

  none_yet : (name : List ℕ) (fs : List KeyedField) (vs : List Value) → list_any (bytes_eq (codes "_")) (keys fs) ≡ false → map view vs ≡ replicate (length fs) absent → FieldsAre ds args (member (codes "_") (string name) no_members) fs vs
  none_yet name [] [] none are = tt
  none_yet name [] (v ∷ vs) none are = absurd cc
  none_yet name (f ∷ fs) [] none are = absurd cc
  none_yet name (f ∷ fs) (v ∷ vs) none are =
      let both = or_parts (bytes_eq (codes "_") (string_bytes f.key)) (list_any (bytes_eq (codes "_")) (keys fs)) none in
      let here = get_member-put_other (string_bytes f.key) (codes "_") (string name) no_members (differ_back (codes "_") (string_bytes f.key) both.0) in
      let first : view v ≡ absent = cc in
      let later : map view vs ≡ replicate (length fs) absent = cc in
      (subst (λ (o : Option Data). FieldIs ds args (keyed_slot f) o (view v)) (sym here) first, none_yet name fs vs both.1 later)

  pub begins_fields : (name : List ℕ) (fs : List KeyedField) (vs : List Value) → AreApart (record_keys (map keyed_slot fs)) → map view vs ≡ replicate (length fs) absent → HasFields ds args fs name (member (codes "_") (string name) no_members) vs
  begins_fields name fs vs apart are =
      let first = first_apart (codes "_") (keys fs) (are_apart fs apart) in
      record {
        named = ap (option_and_then as_str) (get_member-put (codes "_") (string name) no_members);
        known = other_put (record_keys (map keyed_slot fs)) (codes "_") (string name) no_members (ap (λ b. b || list_any (bytes_eq (codes "_")) (map (λ (s : Slot). name_text s.name) (map keyed_slot fs))) (bytes_are (codes "_") (codes "_") refl)) refl;
        fields = none_yet name fs vs first are;
      }

  -- ---- one key more

  module _ (k : List ℕ) (d : Data) (ms : Members) where
    others_put : (fs : List KeyedField) (vs : List Value) → list_any (bytes_eq k) (keys fs) ≡ false → FieldsAre ds args ms fs vs → FieldsAre ds args (put k d ms) fs vs
    others_put [] [] none are = tt
    others_put [] (v ∷ vs) none are = are
    others_put (f ∷ fs) [] none are = are
    others_put (f ∷ fs) (v ∷ vs) none are =
        let both = or_parts (bytes_eq k (string_bytes f.key)) (list_any (bytes_eq k) (keys fs)) none in
        let here = get_member-put_other (string_bytes f.key) k d ms (differ_back k (string_bytes f.key) both.0) in
        (subst (λ (o : Option Data). FieldIs ds args (keyed_slot f) o (view v)) (sym here) are.0, others_put fs vs both.1 are.1)

    abbrev Found : Value → KeyedField → Type 0
    Found v f = (string_bytes f.key ≡ k) × (read ds (closed args (keyed_slot f).of) d ≡ Ok (view v))

    keyed_so : (v : Value) (o : Option KeyedField) → IsSomeAnd o (Found v) → IsSomeAnd o (λ f. string_bytes f.key ≡ k)
    keyed_so v None is = is
    keyed_so v (Some f) is = is.0

    fields_put : (fs : List KeyedField) (vs : List Value) (i : ℕ) (v : Value) → AreApart (keys fs) → IsSomeAnd (slice_get fs i) (Found v) → FieldsAre ds args ms fs vs → FieldsAre ds args (put k d ms) fs (slice_set vs i v)
    fields_put [] vs i v apart is are = absurd is
    fields_put (f ∷ fs) [] i v apart is are = absurd are
    fields_put (f ∷ fs) (w ∷ vs) zero v apart is are =
        let none = first_apart (string_bytes f.key) (keys fs) apart in
        let here : get_member (string_bytes f.key) (put k d ms) ≡ Some d = ap (λ (q : List ℕ). get_member q (put k d ms)) is.0 ∙ get_member-put k d ms in
        (subst (λ (o : Option Data). FieldIs ds args (keyed_slot f) o (view v)) (sym here) is.1, others_put fs vs (ap (λ (q : List ℕ). list_any (bytes_eq q) (keys fs)) (sym is.0) ∙ none) are.1)
    fields_put (f ∷ fs) (w ∷ vs) (suc i) v apart is are =
        let none = first_apart (string_bytes f.key) (keys fs) apart in
        let here = get_member-put_other (string_bytes f.key) k d ms (key_differs fs i (string_bytes f.key) k none (keyed_so v (slice_get fs i) is)) in
        (subst (λ (o : Option Data). FieldIs ds args (keyed_slot f) o (view w)) (sym here) are.0, fields_put fs vs i v (rest_apart (string_bytes f.key) (keys fs) apart) is are.1)

    -- the field at an index, as the code finds it
    pub found_at : (fs : List KeyedField) (i : ℕ) (f : KeyedField) (v : Value) → f ≡ slice_index_or fs i f → IsSomeAnd (slice_get fs i) (λ g. string_bytes g.key ≡ k) → read ds (closed args (keyed_slot (slice_index_or fs i f)).of) d ≡ Ok (view v) → IsSomeAnd (slice_get fs i) (Found v)
    found_at fs i f v at keyed reads = by (slice_get fs i) refl keyed
      where
        by : (o : Option KeyedField) → slice_get fs i ≡ o → IsSomeAnd o (λ g. string_bytes g.key ≡ k) → IsSomeAnd o (Found v)
        by None e is = is
        by (Some g) e is =
            let there = slice_get_read fs (length fs) i f refl (slice_get_within fs i g e) at in
            let same : f ≡ g = let both : Some f ≡ Some g = sym there ∙ e in cc in
            (is, subst (λ (h : KeyedField). read ds (closed args (keyed_slot h).of) d ≡ Ok (view v)) (sym at ∙ same) reads)

    pub one_key : (name : List ℕ) (fs : List KeyedField) (vs : List Value) (i : ℕ) (v : Value) → AreApart (record_keys (map keyed_slot fs)) → IsSomeAnd (slice_get fs i) (Found v) → HasFields ds args fs name ms vs → HasFields ds args fs name (put k d ms) (slice_set vs i v)
    one_key name fs vs i v apart is has =
        let all = are_apart fs apart in
        let keyed = keyed_so v (slice_get fs i) is in
        let other = key_differs fs i (codes "_") k (first_apart (codes "_") (keys fs) all) keyed in
        record {
          named = ap (option_and_then as_str) (get_member-put_other (codes "_") k d ms other) ∙ has.named;
          known = other_put (record_keys (map keyed_slot fs)) k d ms (ap (list_any (bytes_eq k)) (all_keys fs) ∙ later (bytes_eq k (codes "_")) (key_there fs i k keyed)) has.known;
          fields = fields_put fs vs i v (rest_apart (codes "_") (keys fs) all) is has.fields;
        }
      where
        later : (b : Bool) → list_any (bytes_eq k) (keys fs) ≡ true → (b || list_any (bytes_eq k) (keys fs)) ≡ true
        later true there = refl
        later false there = there

  -- ---- all of them

  module _ (ms : Members) where
    none_lacks : (c : Option (ℕ × ℕ)) (v : ValueView) → v ≡ absent → (is_absent v && is_none c) ≡ false → not_there c ≡ Ok v
    none_lacks None v is full = absurd (true≢false (sym (ap (λ (x : ValueView). is_absent x && true) is) ∙ full))
    none_lacks (Some c) v is full = ap (λ (x : ValueView). Ok x) (sym is)

    field_read : (f : KeyedField) (v : Value) (o : Option Data) → FieldIs ds args (keyed_slot f) o (view v) → lacks f v ≡ false → one_field args (keyed_slot f) (option_map (reader ds) o) ≡ Ok (view v)
    field_read f v None is full = none_lacks (keyed_slot f).cond (view v) is full
    field_read f v (Some d) is full = is

    each_read : (i : ℕ) (before : List ValueView) (fs : List KeyedField) (vs : List Value) → FieldsAre ds args ms fs vs → lacks_any fs vs ≡ false → each_field i args before (map keyed_slot fs) (parts ds ms) ≡ Ok (before ++ map view vs)
    each_read i before [] [] are full = ap (λ (xs : List ValueView). Ok xs) (sym (append-nil before))
    each_read i before [] (v ∷ vs) are full = absurd are
    each_read i before (f ∷ fs) [] are full = absurd are
    each_read i before (f ∷ fs) (v ∷ vs) are full =
        let both = or_parts (lacks f v) (lacks_any fs vs) full in
        let rest : ValueView → Read (List ValueView) = λ x. each_field (suc i) args (before ++ x ∷ []) (map keyed_slot fs) (parts ds ms) in
        let found = part_at ds (name_text (keyed_slot f).name) ms ∙ ap (λ (q : List ℕ). option_map (reader ds) (get_member q ms)) (sym f.named) in
        let here = ap (one_field args (keyed_slot f)) found ∙ field_read f v (get_member (string_bytes f.key) ms) are.0 both.0 in
        ap (λ (r : Read ValueView). inside i r >>= rest) here ∙ each_read (suc i) (before ++ view v ∷ []) fs vs are.1 both.1
        ∙ ap (λ (xs : List ValueView). Ok xs) (append_assoc before (view v ∷ []) (map view vs))

  pub record_read : (T : Shape) (name : List ℕ) (i : ℕ) (fs : List KeyedField) (ms : Members) (vs : List Value) (v : ValueView) → declaration_named ds T name ≡ Some i → map keyed_slot fs ≡ fields_in (slice_get ds i) → args ≡ arguments_of T
      → HasFields ds args fs name ms vs → lacks_any fs vs ≡ false → v ≡ record_value T i (views vs) → of_record ds ms (parts ds ms) T ≡ Ok v
  record_read T name i fs ms vs v found slots applied has full is =
      let whole : all_fields args (map keyed_slot fs) ms (parts ds ms) ≡ Ok (map view vs) = rw has.known (each_read ms 0 [] fs vs has.fields full) in
      let there : all_fields (arguments_of T) (fields_in (slice_get ds i)) ms (parts ds ms) ≡ Ok (map view vs) = rw (← applied, ← slots) whole in
      let of : declaration_of ds T ms ≡ Some i = ap (option_and_then (declaration_named ds T)) has.named ∙ found in
      ap (of_declaration ds T ms (parts ds ms)) of ∙ ap (λ (r : Read (List ValueView)). r >>= λ xs. Ok (record_value T i (values_of xs))) there ∙ ap (λ (x : ValueView). Ok x) (sym is)

-- ---- fields and values side by side

pub lacks_more : (fs gs : List KeyedField) (vs ws : List Value) (f : KeyedField) (v : Value) (b all : Bool) → fs ≡ f ∷ gs → vs ≡ v ∷ ws → b ≡ lacks f v → lacks_any fs vs ≡ all → (b || lacks_any gs ws) ≡ all
lacks_more fs gs vs ws f v b all first second is whole = ap (λ x. x || lacks_any gs ws) is ∙ ap₂ lacks_any (sym first) (sym second) ∙ whole

pub lacks_none : (fs : List KeyedField) (vs : List Value) → (fs ≡ []) ⊎ (vs ≡ []) → false ≡ lacks_any fs vs
lacks_none fs vs (inl none) = ap (λ (xs : List KeyedField). lacks_any xs vs) (sym none)
lacks_none [] vs (inr none) = refl
lacks_none (f ∷ fs) vs (inr none) = ap (lacks_any (f ∷ fs)) (sym none)
