-- Elements of lists by their indexes.
use Rattle.std.proofs.Common.{◌≡◌, ℕ, zero, suc, ◌+◌, ◌<◌, List, [], ◌∷◌, ◌++◌, map, take, length, get_or, slice_get, Some, refl, ap, ap₂, ◌∙◌, arith}
use Rattle.std.specs.Option.{option_map}
use Rattle.std.proofs.lemmas.List.{take_more}
use Rattle.std.proofs.lemmas.Option.{slice_get-map, slice_get_read, slice_get_within, get_or_from_slice_get}

-- the element at an index, as a function makes it
pub slice_get_made : {X Y : Type 0} (f : X → Y) (xs : List X) (i : ℕ) (x : X) → slice_get xs i ≡ Some x → slice_get (map f xs) i ≡ Some (f x)
slice_get_made f xs i x at = slice_get-map f xs i ∙ ap (option_map f) at

pub slice_get_item : {X Y : Type 0} (f : X → Y) (xs : List X) (i : ℕ) (x : X) → i < length xs → x ≡ get_or xs i x → slice_get (map f xs) i ≡ Some (f x)
slice_get_item f xs i x within is = slice_get_made f xs i x (slice_get_read xs (length xs) i x refl within is)

-- one more element
pub take_push : {X : Type 0} (xs : List X) (i : ℕ) (x : X) → slice_get xs i ≡ Some x → take (i + 1) xs ≡ take i xs ++ x ∷ []
take_push xs i x at = take_more xs i x (slice_get_within xs i x at) ∙ ap (λ y. take i xs ++ y ∷ []) (get_or_from_slice_get xs i x x at)

-- functions that agree on the first i elements
pub map_take_same : {X Y : Type 0} (f g : X → Y) (xs : List X) (i : ℕ) → ((k : ℕ) (x : X) → k < i → slice_get xs k ≡ Some x → f x ≡ g x) → map f (take i xs) ≡ map g (take i xs)
map_take_same f g xs zero same = refl
map_take_same f g [] (suc i) same = refl
map_take_same f g (x ∷ xs) (suc i) same =
    ap₂ (λ y ys. y ∷ ys) (same 0 x (omega arith) refl) (map_take_same f g xs i (λ k y below at. same (suc k) y (omega arith) at))
