-- Keys that differ from each other, and a map that holds them.
use Rattle.std.proofs.Common.{◌≡◌, ℕ, zero, suc, ◌+◌, ◌<◌, List, [], ◌∷◌, ◌++◌, length, map, take, get_or, Bool, true, false, ◌||◌, cond, Option, Some, is_some, string_bytes, BTreeMap, Bor, bytes_eq, refl, sym, ap, ◌∙◌, subst, arith}
use Rattle.std.specs.Prelude.{codes}
use Rattle.std.specs.BTreeMap.{get_by, IsEmpty, UpdatesBy}
use Rattle.std.specs.Cmp.Lexicographic.{slice_cmp}
use Rattle.std.specs.List.{list_any}
use Rattle.std.specs.Ordering.{nat_cmp}
use Rattle.std.proofs.lemmas.Bool.{or_parts}
use Rattle.std.proofs.lemmas.List.{map_push}
use Rattle.std.proofs.lemmas.List.Folds.{list_any-append}
use Rattle.std.proofs.lemmas.List.Quantifiers.{all_pairs_push}
use Rattle.std.proofs.lemmas.Map.Text.{btree_map_updates_str}
use Rattle.std.proofs.lemmas.Option.{slice_get_read}
use Rattle.tl_names.proofs.Maps.{take_push}
use Rattle.tl_schema.specs.Schemas.{Slot}
use Rattle.tl_show.specs.Shown.{name_text}
use Rattle.tl_show.specs.Reading.{AreApart, record_keys}
use Rattle.tl_show.specs.inner.Keyed.{keyed_slot}
use Rattle.tl_show.specs.declared.keyed.KeyedField.{KeyedField}

abbrev Held : Type 0 → Type 0
Held X = BTreeMap (Bor (List ℕ)) X

abbrev found : {X : Type 0} → List ℕ → Held X → Option X
found q m = get_by (λ k. slice_cmp nat_cmp q k.now) m

-- one key alone changes its value
abbrev Puts : {X : Type 0} → List ℕ → Held X → Held X → Option X → Type 0
Puts q m n w = UpdatesBy (λ j k. slice_cmp nat_cmp j.now k.now) (λ k. slice_cmp nat_cmp q k.now) m n w

-- the keys of the map are these, and no two are alike
pub record HoldsKeys {X : Type 0} (m : BTreeMap (Bor (List ℕ)) X) (ks : List (List ℕ)) : Type 0 where
  pub apart : AreApart ks
  pub held : (q : List ℕ) → is_some (get_by (λ k. slice_cmp nat_cmp q k.now) m) ≡ list_any (λ k. bytes_eq k q) ks

none_at : (p : List ℕ → Bool) (ks : List (List ℕ)) → list_any p ks ≡ false → (i : ℕ) (d : List ℕ) → i < length ks → p (get_or ks i d) ≡ false
none_at p [] none i d within = absurd (omega arith)
none_at p (k ∷ ks) none zero d within = (or_parts (p k) (list_any p ks) none).0
none_at p (k ∷ ks) none (suc i) d within = none_at p ks (or_parts (p k) (list_any p ks) none).1 i d (omega arith)

with_one : {X : Type 0} (b a : Bool) (o : Option X) (x : X) → is_some o ≡ a → is_some (cond b (Some x) o) ≡ (a || (b || false))
with_one true true o x is = refl
with_one true false o x is = refl
with_one false true o x is = is
with_one false false o x is = is

-- a key more, which the map did not have
pub key_held : {X : Type 0} (m n : BTreeMap (Bor (List ℕ)) X) (k : List ℕ) (old : Option X) (x : X) (ks js : List (List ℕ)) → HoldsKeys m ks
    → old ≡ found k m → is_some old ≡ false → Puts k m n (Some x) → js ≡ ks ++ k ∷ [] → HoldsKeys n js
key_held {X} m n k old x ks js before looked new puts are =
    let none : list_any (λ j. bytes_eq j k) ks ≡ false = sym (before.held k) ∙ ap is_some (sym looked) ∙ new in
    let P : List (List ℕ) → Type 0 = λ hs. HoldsKeys n hs in
    subst P (sym are) (record {
      apart = all_pairs_push (λ i j. bytes_eq i j ≡ false) ks k before.apart (none_at (λ j. bytes_eq j k) ks none);
      held = λ q.
          ap is_some (btree_map_updates_str k m n (Some x) puts q) ∙ with_one (bytes_eq k q) (list_any (λ j. bytes_eq j q) ks) (found q m) x (before.held q)
          ∙ sym (list_any-append (λ j. bytes_eq j q) ks (k ∷ []));
    })

-- the first key
pub first_held : {X : Type 0} (m n : BTreeMap (Bor (List ℕ)) X) (k : List ℕ) (old : Option X) (x : X) → IsEmpty m → old ≡ found k m → Puts k m n (Some x) → HoldsKeys n (k ∷ [])
first_held m n k old x empty looked puts =
    let before : HoldsKeys m [] = record { apart = λ i j d less within. absurd (omega arith); held = λ q. rw empty refl } in
    key_held m n k old x [] (k ∷ []) before looked (ap is_some looked ∙ rw empty refl) puts refl

-- the keys of one field more
pub keys_push : (fields : List KeyedField) (i : ℕ) (f : KeyedField) (k : List ℕ) → i < length fields → f ≡ get_or fields i f → k ≡ string_bytes f.key
    → record_keys (map keyed_slot (take (i + 1) fields)) ≡ record_keys (map keyed_slot (take i fields)) ++ k ∷ []
keys_push fields i f k within at is =
    let there = slice_get_read fields (length fields) i f refl within at in
    let slots = ap (map keyed_slot) (take_push fields i f there) ∙ map_push keyed_slot (take i fields) f in
    let names = map_push (λ (s : Slot). name_text s.name) (map keyed_slot (take i fields)) (keyed_slot f) in
    let add : List ℕ → List (List ℕ) = λ t. record_keys (map keyed_slot (take i fields)) ++ t ∷ [] in
    ap record_keys slots ∙ ap (λ (ks : List (List ℕ)). codes "_" ∷ ks) names ∙ ap add (sym (is ∙ f.named))
