-- Lists of types are one where they are as long and each type is one with that at its index.
use Rattle.std.proofs.Common.{◌≡◌, ◌≢◌, inl, inr, ℕ, zero, suc, ◌+◌, ◌<◌, ◌≤◌, take, List, [], ◌∷◌, map, length, slice_get, Some, Bool, true, false, ◌&&◌, refl, ap, sym, ◌∙◌, arith}
use Rattle.std.proofs.lemmas.Bool.{cases_eq}
use Rattle.std.proofs.lemmas.List.{length-map, take_all}
use Rattle.std.proofs.lemmas.Option.{none-some, same_Some}
use Rattle.tl_schema.specs.Seen.{shape as seen}
use Rattle.tl_schema.specs.declared.schema.TypeRef.{TypeRef}
use Rattle.tl_schema.specs.Types.{Shape, shapes_of, shape}
use Rattle.tl_schema.specs.Schemas.{Declared}
use Rattle.tl_plan.specs.Types.{is_same, are_same}
use Rattle.tl_layers.specs.Counterparts.{image, image_each}
use Rattle.tl_layers.proofs.LiftedValues.{get_mapped}
use Rattle.tl_layers.proofs.MovedDeclarations.{get_of}

pub images_of_list : (old new : Declared) (Ts : List Shape) → image_each old new (shapes_of Ts) ≡ shapes_of (map (image old new) Ts)
images_of_list old new [] = refl
images_of_list old new (T ∷ Ts) = ap (shape (image old new T)) (images_of_list old new Ts)

pub not_as_long : (Ts Us : List Shape) → length Ts ≢ length Us → are_same (shapes_of Ts) (shapes_of Us) ≡ false
not_as_long [] [] other = absurd (other refl)
not_as_long [] (U ∷ Us) other = refl
not_as_long (T ∷ Ts) [] other = refl
not_as_long (T ∷ Ts) (U ∷ Us) other = by (is_same T U) (not_as_long Ts Us (λ e. other (ap suc e)))
  where
    by : (b : Bool) → are_same (shapes_of Ts) (shapes_of Us) ≡ false → (b && are_same (shapes_of Ts) (shapes_of Us)) ≡ false
    by true e = e
    by false e = refl

pub not_at : (Ts Us : List Shape) (k : ℕ) (T U : Shape) → slice_get Ts k ≡ Some T → slice_get Us k ≡ Some U → is_same T U ≡ false → are_same (shapes_of Ts) (shapes_of Us) ≡ false
not_at [] Us k T U at there other = absurd (none-some T at)
not_at (V ∷ Ts) [] k T U at there other = refl
not_at (V ∷ Ts) (W ∷ Us) zero T U at there other =
    ap (λ (X : Shape). is_same X W && are_same (shapes_of Ts) (shapes_of Us)) (same_Some V T at)
    ∙ ap (λ (X : Shape). is_same T X && are_same (shapes_of Ts) (shapes_of Us)) (same_Some W U there) ∙ ap (λ (b : Bool). b && are_same (shapes_of Ts) (shapes_of Us)) other
not_at (V ∷ Ts) (W ∷ Us) (suc k) T U at there other = by (is_same V W) (not_at Ts Us k T U at there other)
  where
    by : (b : Bool) → are_same (shapes_of Ts) (shapes_of Us) ≡ false → (b && are_same (shapes_of Ts) (shapes_of Us)) ≡ false
    by true e = e
    by false e = refl

pub each_at : (Ts Us : List Shape) → length Ts ≡ length Us → ((k : ℕ) (T U : Shape) → slice_get Ts k ≡ Some T → slice_get Us k ≡ Some U → is_same T U ≡ true) → are_same (shapes_of Ts) (shapes_of Us) ≡ true
each_at [] [] long each = refl
each_at [] (U ∷ Us) long each = absurd (omega (arith, long))
each_at (T ∷ Ts) [] long each = absurd (omega (arith, long))
each_at (T ∷ Ts) (U ∷ Us) long each =
    ap (λ (b : Bool). b && are_same (shapes_of Ts) (shapes_of Us)) (each 0 T U refl refl)
    ∙ each_at Ts Us (let next : suc (length Ts) ≡ suc (length Us) = long in omega (arith, next)) (λ k S V at there. each (suc k) S V at there)

-- ---- the code's types

module _ (old new : Declared) where
  abbrev Image : TypeRef → Shape
  Image t = image old new (seen t)

  listed : (all : List TypeRef) → image_each old new (shapes_of (map seen all)) ≡ shapes_of (map Image all)
  listed all = images_of_list old new (map seen all) ∙ ap shapes_of (made all)
    where
      made : (ts : List TypeRef) → map (image old new) (map seen ts) ≡ map Image ts
      made [] = refl
      made (t ∷ ts) = ap (λ (Ts : List Shape). Image t ∷ Ts) (made ts)

  module _ (made all : List TypeRef) where
    abbrev Same : Bool
    Same = are_same (shapes_of (map seen made)) (image_each old new (shapes_of (map seen all)))

    same_is : are_same (shapes_of (map seen made)) (shapes_of (map Image all)) ≡ Same
    same_is = ap (are_same (shapes_of (map seen made))) (sym (listed all))

    pub other_length : (length all ≡ length made → ⊥) → false ≡ Same
    other_length other = sym (not_as_long (map seen made) (map Image all) (λ e. other (sym (length-map all Image) ∙ sym e ∙ length-map made seen))) ∙ same_is

    pub other_item : (k : ℕ) (x y : TypeRef) → slice_get made k ≡ Some x → slice_get all k ≡ Some y → is_same (seen x) (Image y) ≡ false → false ≡ Same
    other_item k x y at there other = sym (not_at (map seen made) (map Image all) k (seen x) (Image y) (get_mapped seen made k x at) (get_mapped Image all k y there) other) ∙ same_is

    pub all_items : length all ≡ length made → ((k : ℕ) (x y : TypeRef) → slice_get made k ≡ Some x → slice_get all k ≡ Some y → is_same (seen x) (Image y) ≡ true) → true ≡ Same
    all_items long each = sym (each_at (map seen made) (map Image all) (length-map made seen ∙ sym long ∙ sym (length-map all Image)) at) ∙ same_is
      where
        at : (k : ℕ) (T U : Shape) → slice_get (map seen made) k ≡ Some T → slice_get (map Image all) k ≡ Some U → is_same T U ≡ true
        at k T U a b =
            let x = get_of seen made k T a in
            let y = get_of Image all k U b in
            ap (λ (S : Shape). is_same S U) (sym x.2) ∙ ap (is_same (seen x.0)) (sym y.2) ∙ each k x.0 y.0 x.1 y.1

    pub more_items : (i : ℕ) (x y : TypeRef) → slice_get made i ≡ Some x → slice_get all i ≡ Some y → is_same (seen x) (Image y) ≡ true → ((k : ℕ) (v w : TypeRef) → k < i → slice_get made k ≡ Some v → slice_get all k ≡ Some w → is_same (seen v) (Image w) ≡ true)
        → (k : ℕ) (v w : TypeRef) → k < i + 1 → slice_get made k ≡ Some v → slice_get all k ≡ Some w → is_same (seen v) (Image w) ≡ true
    more_items i x y at there same before k v w below here also = elim (cases_eq k i) [
      | inl e ↦
          (let one : x ≡ v = same_Some x v (sym at ∙ ap (slice_get made) (sym e) ∙ here) in
          let two : y ≡ w = same_Some y w (sym there ∙ ap (slice_get all) (sym e) ∙ also) in
          ap (λ (t : TypeRef). is_same (seen t) (Image w)) (sym one) ∙ ap (λ (t : TypeRef). is_same (seen x) (Image t)) (sym two) ∙ same)
      | inr other ↦ before k v w (omega (arith, below, other)) here also
    ]

  pub images_made : (made xs ys : List TypeRef) (i : ℕ) → map seen made ≡ map (λ t. image old new (seen t)) (take i xs) → length xs ≤ i → xs ≡ ys → shapes_of (map seen made) ≡ image_each old new (shapes_of (map seen ys))
  images_made made xs ys i is past same =
      ap shapes_of (is ∙ ap (map Image) (take_all i xs past ∙ same)) ∙ sym (listed ys)
