-- Keys of an object that are no field's.
use Rattle.std.proofs.Common.{◌≡◌, ℕ, suc, ◌+◌, ◌<◌, ◌≤◌, List, [], ◌∷◌, length, map, get_or, Bool, true, false, ◌||◌, not, Option, Some, is_some, String, Global, string_bytes, Ordering, Less, Equal, Greater, is_eq, nat_cmp, bytes_eq, refl, sym, ap, ap₂, subst, ◌∙◌, arith, true≢false}
use Rattle.std.specs.Cmp.Lexicographic.{slice_cmp}
use Rattle.std.specs.List.{list_any}
use Rattle.std.specs.Map.{keys_of}
use Rattle.std.specs.Ordering.{match_ordering}
use Rattle.std.proofs.lemmas.Map.Text.{is_eq-slice_cmp}
use Rattle.std.proofs.lemmas.Slice.Eq.{bytes_eq-Decides}
use Rattle.serde_json.specs.Data.{Data, Members, no_members, member}
use Rattle.serde_json.specs.Events.{members_len}
use Rattle.serde_json.specs.Find.{get_member}
use Rattle.serde_json.specs.View.{members_view}
use Rattle.serde_json.specs.declared.value.Value.{Value}
use Rattle.tl_schema.specs.Schemas.{Slot}
use Rattle.tl_show.specs.Shown.{name_text}
use Rattle.tl_show.specs.Reading.{AreApart, has_other}
use Rattle.tl_show.specs.inner.Keyed.{keyed_slot}
use Rattle.tl_show.specs.declared.keyed.KeyedField.{KeyedField}

-- ---- keys as the code goes over them

pub field_keys : (k : List ℕ) (fields : List KeyedField) → list_any (λ f. bytes_eq k (string_bytes f.key)) fields ≡ list_any (bytes_eq k) (map (λ (s : Slot). name_text s.name) (map keyed_slot fields))
field_keys k [] = refl
field_keys k (f ∷ fields) = ap₂ (λ a b. a || b) (ap (bytes_eq k) f.named) (field_keys k fields)

-- a key is none of these
abbrev pub any_other : List (List ℕ) → List (String Global) → Bool
any_other ks js = list_any (λ j. not (list_any (bytes_eq (string_bytes j)) ks)) js

pub other_keys : (ks : List (List ℕ)) (es : List (String Global × Value)) → any_other ks (keys_of es) ≡ has_other ks (members_view es)
other_keys ks [] = refl
other_keys ks (e ∷ es) = ap (λ b. not (list_any (bytes_eq (string_bytes e.0)) ks) || b) (other_keys ks es)

-- ---- how many of the keys there are, and how many members have one of them

abbrev pub one_if : Bool → ℕ
one_if true = 1
one_if false = 0

abbrev pub held : List (List ℕ) → Members → ℕ
held [] ms = 0
held (k ∷ ks) ms = one_if (is_some (get_member k ms)) + held ks ms

abbrev known : List (List ℕ) → Members → ℕ
known ks no_members = 0
known ks (member k d ms) = one_if (list_any (bytes_eq k) ks) + known ks ms

same_bytes : (x y : List ℕ) → bytes_eq x y ≡ true → x ≡ y
same_bytes x y is = (bytes_eq-Decides x y).0 is

pub bytes_are : (x y : List ℕ) → x ≡ y → bytes_eq x y ≡ true
bytes_are x y is = (bytes_eq-Decides x y).1 is

one_at : (o : Ordering) (a : Bool) (k l : List ℕ) (d : Data) (rest : Option Data) (n : ℕ) → is_eq o ≡ bytes_eq k l → bytes_eq l k ≡ a → (is_some rest ≡ true → 1 ≤ n)
    → is_some (match_ordering o rest (Some d) rest) ≡ true → 1 ≤ one_if (a || false) + n
one_at Less a k l d rest n is b later there = let h = later there in omega (arith, h)
one_at Greater a k l d rest n is b later there = let h = later there in omega (arith, h)
one_at Equal true k l d rest n is b later there = omega arith
one_at Equal false k l d rest n is b later there = absurd (true≢false (sym (bytes_are l k (sym (same_bytes k l (sym is)))) ∙ b))

one_known : (k : List ℕ) (ms : Members) → is_some (get_member k ms) ≡ true → 1 ≤ known (k ∷ []) ms
one_known k no_members there = absurd (true≢false (sym there))
one_known k (member l d ms) there = one_at (slice_cmp nat_cmp k l) (bytes_eq l k) k l d (get_member k ms) (known (k ∷ []) ms) (is_eq-slice_cmp k l) refl (one_known k ms) there

either : (a b : Bool) → (a ≡ true → b ≡ false) → one_if (a || b) ≡ one_if (a || false) + one_if b
either true b not_both = rw (not_both refl) refl
either false true not_both = refl
either false false not_both = refl

split : (k : List ℕ) (ks : List (List ℕ)) (ms : Members) → list_any (bytes_eq k) ks ≡ false → known (k ∷ ks) ms ≡ known (k ∷ []) ms + known ks ms
split k ks no_members apart = refl
split k ks (member l d ms) apart =
    let here = either (bytes_eq l k) (list_any (bytes_eq l) ks) (λ is. subst (λ (x : List ℕ). list_any (bytes_eq x) ks ≡ false) (sym (same_bytes l k is)) apart) in
    let later = split k ks ms apart in
    omega (arith, here, later)

none_any : (p : List ℕ → Bool) (ks : List (List ℕ)) → ((i : ℕ) (d : List ℕ) → i < length ks → p (get_or ks i d) ≡ false) → list_any p ks ≡ false
none_any p [] none = refl
none_any p (k ∷ ks) none = ap₂ (λ a b. a || b) (none 0 k (omega arith)) (none_any p ks (λ i d within. none (suc i) d (omega arith)))

pub first_apart : (k : List ℕ) (ks : List (List ℕ)) → AreApart (k ∷ ks) → list_any (bytes_eq k) ks ≡ false
first_apart k ks apart = none_any (bytes_eq k) ks (λ i d within. apart 0 (suc i) d (omega arith) (omega arith))

pub rest_apart : (k : List ℕ) (ks : List (List ℕ)) → AreApart (k ∷ ks) → AreApart ks
rest_apart k ks apart = λ i j d less within. apart (suc i) (suc j) d (omega arith) (omega arith)

held_known : (ks : List (List ℕ)) (ms : Members) → AreApart ks → held ks ms ≤ known ks ms
held_known [] ms apart = omega arith
held_known (k ∷ ks) ms apart =
    let later = held_known ks ms (rest_apart k ks apart) in
    let whole = split k ks ms (first_apart k ks apart) in
    by (is_some (get_member k ms)) refl later whole
  where
    by : (b : Bool) → is_some (get_member k ms) ≡ b → held ks ms ≤ known ks ms → known (k ∷ ks) ms ≡ known (k ∷ []) ms + known ks ms → one_if b + held ks ms ≤ known (k ∷ ks) ms
    by true is later whole = let one = one_known k ms is in omega (arith, one, later, whole)
    by false is later whole = omega (arith, later, whole)

known_within : (ks : List (List ℕ)) (ms : Members) → known ks ms ≤ members_len ms
known_within ks no_members = omega arith
known_within ks (member k d ms) = by (list_any (bytes_eq k) ks) (known_within ks ms)
  where
    by : (b : Bool) → known ks ms ≤ members_len ms → one_if b + known ks ms ≤ suc (members_len ms)
    by true later = omega (arith, later)
    by false later = omega (arith, later)

all_known : (ks : List (List ℕ)) (ms : Members) → members_len ms ≤ known ks ms → has_other ks ms ≡ false
all_known ks no_members many = refl
all_known ks (member k d ms) many = by (list_any (bytes_eq k) ks) many (known_within ks ms) (all_known ks ms)
  where
    by : (b : Bool) → suc (members_len ms) ≤ one_if b + known ks ms → known ks ms ≤ members_len ms → (members_len ms ≤ known ks ms → has_other ks ms ≡ false)
        → not b || has_other ks ms ≡ false
    by true many few later = later (omega (arith, many))
    by false many few later = absurd (omega (arith, many, few))

-- where as many of the keys are there as there are members, no member has another
pub no_other : (ks : List (List ℕ)) (ms : Members) → AreApart ks → members_len ms ≤ held ks ms → has_other ks ms ≡ false
no_other ks ms apart many = let most = held_known ks ms apart in all_known ks ms (omega (arith, most, many))

pub held_within : (ks : List (List ℕ)) (ms : Members) → AreApart ks → held ks ms ≤ members_len ms
held_within ks ms apart = let most = held_known ks ms apart in let few = known_within ks ms in omega (arith, most, few)
