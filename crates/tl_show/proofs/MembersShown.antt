-- The members of a record that is shown: what stands at each key, and which keys there are.
use Rattle.std.proofs.Common.{◌≡◌, ℕ, List, [], ◌∷◌, ◌++◌, map, Bool, true, false, ◌||◌, not, Some, None, Ordering, Less, Equal, Greater, nat_cmp, bytes_eq, codes, refl, sym, ap, ap₂, subst, ◌∙◌, append_assoc, true≢false}
use Rattle.std.specs.Prelude.{⊤, option_and_then}
use Rattle.std.specs.Cmp.Lexicographic.{slice_cmp}
use Rattle.std.specs.List.{list_any}
use Rattle.std.specs.Ordering.{match_ordering}
use Rattle.std.proofs.lemmas.Bool.{or_parts}
use Rattle.serde_json.specs.Data.{Data, string, Members, no_members, member, put}
use Rattle.serde_json.specs.Find.{as_str, get_member}
use Rattle.serde_json.proofs.Views.{get_member-put, get_member-put_other}
use Rattle.tl_schema.specs.Types.{Shape}
use Rattle.tl_schema.specs.Closing.{closed}
use Rattle.tl_schema.specs.Schemas.{Slot, Declaration}
use Rattle.tl_types.specs.Values.{ValueViews, no_values, value}
use Rattle.tl_types.specs.Parts.{is_absent}
use Rattle.tl_show.specs.Shown.{name_text, named, shown, with_field, with_fields}
use Rattle.tl_show.specs.Reading.{AreApart, has_other, record_keys, text_at}
use Rattle.tl_show.specs.inner.Forms.{unless_missing}
use Rattle.tl_show.proofs.OtherKeys.{bytes_are, first_apart, rest_apart}

abbrev pub keys : List Slot → List (List ℕ)
keys fs = map (λ (f : Slot). name_text f.name) fs

-- a key that isn't among these differs from the first
differs : (k j : List ℕ) (ks : List (List ℕ)) → list_any (bytes_eq k) (j ∷ ks) ≡ false → k ≡ j → ⊥
differs k j ks none same = true≢false (sym (bytes_are k j same) ∙ (or_parts (bytes_eq k j) (list_any (bytes_eq k) ks) none).0)

-- ---- what stands at a key

put_keeps : (missing : Bool) (q n : List ℕ) (d : Data) (ms : Members) → (q ≡ name_text n → ⊥) → get_member q (with_field missing n d ms) ≡ get_member q ms
put_keeps true q n d ms other = refl
put_keeps false q n d ms other = get_member-put_other q (name_text n) d ms other

module _ (ds : List Declaration) (args : List Shape) where
  fields_keep : (ms : Members) (fs : List Slot) (vs : ValueViews) (q : List ℕ) → list_any (bytes_eq q) (keys fs) ≡ false → get_member q (with_fields ds args ms fs vs) ≡ get_member q ms
  fields_keep ms fs no_values q none = refl
  fields_keep ms [] (value v vs) q none = refl
  fields_keep ms (f ∷ fs) (value v vs) q none =
      let d = shown ds (closed args f.of) v in
      fields_keep (with_field (is_absent v) f.name d ms) fs vs q (or_parts (bytes_eq q (name_text f.name)) (list_any (bytes_eq q) (keys fs)) none).1
      ∙ put_keeps (is_absent v) q f.name d ms (differs q (name_text f.name) (keys fs) none)

  -- each value stands at its field's key, unless it is that of a field that isn't there
  abbrev pub Holds : List Slot → ValueViews → Members → Type 0
  Holds fs no_values ms = ⊤
  Holds [] (value v vs) ms = ⊤
  Holds (f ∷ fs) (value v vs) ms = (get_member (name_text f.name) ms ≡ unless_missing (is_absent v) (shown ds (closed args f.of) v)) × Holds fs vs ms

  -- nothing stands at the keys of these fields
  abbrev Free : List Slot → Members → Type 0
  Free [] ms = ⊤
  Free (f ∷ fs) ms = (get_member (name_text f.name) ms ≡ None) × Free fs ms

  free_after : (missing : Bool) (n : List ℕ) (d : Data) (ms : Members) (fs : List Slot) → list_any (bytes_eq (name_text n)) (keys fs) ≡ false → Free fs ms → Free fs (with_field missing n d ms)
  free_after missing n d ms [] apart free = tt
  free_after missing n d ms (f ∷ fs) apart free =
      let other = differs (name_text n) (name_text f.name) (keys fs) apart in
      let later = (or_parts (bytes_eq (name_text n) (name_text f.name)) (list_any (bytes_eq (name_text n)) (keys fs)) apart).1 in
      (put_keeps missing (name_text f.name) n d ms (λ same. other (sym same)) ∙ free.0, free_after missing n d ms fs later free.1)

  put_here : (missing : Bool) (n : List ℕ) (d : Data) (ms : Members) → get_member (name_text n) ms ≡ None → get_member (name_text n) (with_field missing n d ms) ≡ unless_missing missing d
  put_here true n d ms free = free
  put_here false n d ms free = get_member-put (name_text n) d ms

  all_hold : (ms : Members) (fs : List Slot) (vs : ValueViews) → AreApart (keys fs) → Free fs ms → Holds fs vs (with_fields ds args ms fs vs)
  all_hold ms fs no_values apart free = tt
  all_hold ms [] (value v vs) apart free = tt
  all_hold ms (f ∷ fs) (value v vs) apart free =
      let d = shown ds (closed args f.of) v in
      let first = first_apart (name_text f.name) (keys fs) apart in
      let next = with_field (is_absent v) f.name d ms in (
        fields_keep next fs vs (name_text f.name) first ∙ put_here (is_absent v) f.name d ms free.0,
        all_hold next fs vs (rest_apart (name_text f.name) (keys fs) apart) (free_after (is_absent v) f.name d ms fs first free.1),
      )

  free_of_name : (n : List ℕ) (fs : List Slot) → list_any (bytes_eq (codes "_")) (keys fs) ≡ false → Free fs (named n)
  free_of_name n [] none = tt
  free_of_name n (f ∷ fs) none =
      let other = differs (codes "_") (name_text f.name) (keys fs) none in
      let later = (or_parts (bytes_eq (codes "_") (name_text f.name)) (list_any (bytes_eq (codes "_")) (keys fs)) none).1 in
      (get_member-put_other (name_text f.name) (codes "_") (string (name_text n)) no_members (λ same. other (sym same)), free_of_name n fs later)

  -- in a record of this name
  pub fields_hold : (n : List ℕ) (fs : List Slot) (vs : ValueViews) → AreApart (record_keys fs) → Holds fs vs (with_fields ds args (named n) fs vs)
  fields_hold n fs vs apart = all_hold (named n) fs vs (rest_apart (codes "_") (keys fs) apart) (free_of_name n fs (first_apart (codes "_") (keys fs) apart))

  pub name_holds : (n : List ℕ) (fs : List Slot) (vs : ValueViews) → AreApart (record_keys fs) → text_at (codes "_") (with_fields ds args (named n) fs vs) ≡ Some (name_text n)
  name_holds n fs vs apart =
      ap (option_and_then as_str)
      (fields_keep (named n) fs vs (codes "_") (first_apart (codes "_") (keys fs) apart) ∙ get_member-put (codes "_") (string (name_text n)) no_members)

-- ---- which keys there are

-- the keys of these fields are among them
abbrev Known : List (List ℕ) → List Slot → Type 0
Known ks [] = ⊤
Known ks (f ∷ fs) = (list_any (bytes_eq (name_text f.name)) ks ≡ true) × Known ks fs

among : (before : List (List ℕ)) (k : List ℕ) (ks : List (List ℕ)) → list_any (bytes_eq k) (before ++ k ∷ ks) ≡ true
among [] k ks = ap (λ b. b || list_any (bytes_eq k) ks) (bytes_are k k refl)
among (j ∷ before) k ks = or_true (bytes_eq k j) _ (among before k ks)
  where
    or_true : (a b : Bool) → b ≡ true → (a || b) ≡ true
    or_true true b is = refl
    or_true false b is = is

all_known : (before : List (List ℕ)) (fs : List Slot) → Known (before ++ keys fs) fs
all_known before [] = tt
all_known before (f ∷ fs) =
    let k = name_text f.name in
    (among before k (keys fs), subst (λ (ks : List (List ℕ)). Known ks fs) (append_assoc before (k ∷ []) (keys fs)) (all_known (before ++ k ∷ []) fs))

none_other : (a b : Bool) → a ≡ true → b ≡ false → (not a || b) ≡ false
none_other a b is none = rw (is, none) refl

module _ (ks : List (List ℕ)) where
  put_at : (o : Ordering) (k l : List ℕ) (d e : Data) (ms : Members) → list_any (bytes_eq k) ks ≡ true → has_other ks (member l e ms) ≡ false
      → not (list_any (bytes_eq l) ks) || has_other ks (put k d ms) ≡ false → has_other ks (match_ordering o (member k d (member l e ms)) (member l d ms) (member l e (put k d ms))) ≡ false
  put_at Less k l d e ms known none later = none_other _ _ known none
  put_at Equal k l d e ms known none later = none
  put_at Greater k l d e ms known none later = later

  put_known : (k : List ℕ) (d : Data) (ms : Members) → list_any (bytes_eq k) ks ≡ true → has_other ks ms ≡ false → has_other ks (put k d ms) ≡ false
  put_known k d no_members known none = none_other _ _ known refl
  put_known k d (member l e ms) known none =
      let p = or_parts (not (list_any (bytes_eq l) ks)) (has_other ks ms) none in
      put_at (slice_cmp nat_cmp k l) k l d e ms known none (ap₂ (λ a b. a || b) p.0 (put_known k d ms known p.1))

  field_known : (missing : Bool) (n : List ℕ) (d : Data) (ms : Members) → list_any (bytes_eq (name_text n)) ks ≡ true → has_other ks ms ≡ false → has_other ks (with_field missing n d ms) ≡ false
  field_known true n d ms known none = none
  field_known false n d ms known none = put_known (name_text n) d ms known none

  fields_known : (ds : List Declaration) (args : List Shape) (ms : Members) (fs : List Slot) (vs : ValueViews) → Known ks fs → has_other ks ms ≡ false → has_other ks (with_fields ds args ms fs vs) ≡ false
  fields_known ds args ms fs no_values known none = none
  fields_known ds args ms [] (value v vs) known none = none
  fields_known ds args ms (f ∷ fs) (value v vs) known none =
      let d = shown ds (closed args f.of) v in
      fields_known ds args (with_field (is_absent v) f.name d ms) fs vs known.1 (field_known (is_absent v) f.name d ms known.0 none)

-- in a record of this name no key is another than `_` and its fields'
pub no_other_key : (ds : List Declaration) (args : List Shape) (n : List ℕ) (fs : List Slot) (vs : ValueViews) → has_other (record_keys fs) (with_fields ds args (named n) fs vs) ≡ false
no_other_key ds args n fs vs = fields_known (record_keys fs) ds args (named n) fs vs (all_known (codes "_" ∷ []) fs) refl
