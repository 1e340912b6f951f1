-- A list of values, renamed one after the other.
use Rattle.std.proofs.Common.{◌≡◌, ℕ, zero, suc, ◌<◌, List, [], ◌∷◌, ◌++◌, length, map, take, drop, get_or, refl, ap, ap₂, ◌∙◌, arith}
use Rattle.std.specs.Prelude.{slice_set}
use Rattle.tl_types.specs.Seen.{view, views}
use Rattle.tl_types.specs.Values.{ValueView, values_of}
use Rattle.tl_types.specs.Values as values
use Rattle.tl_types.specs.declared.value.Value.{Value}
use Rattle.wire_profile.specs.Renaming.{renamed, renamed_each}

abbrev pub new_view : (ℕ → ℕ) → Value → ValueView
new_view f v = renamed f (view v)

-- the first i are renamed, the others not yet
abbrev pub so_far : (ℕ → ℕ) → ℕ → List Value → List ValueView
so_far f i xs = map (new_view f) (take i xs) ++ map view (drop i xs)

tail_is : {A : Type 0} (x y : A) (xs ys : List A) → x ∷ xs ≡ y ∷ ys → xs ≡ ys
tail_is x y xs ys e = cc

head_is : {A : Type 0} (x y : A) (xs ys : List A) → x ∷ xs ≡ y ∷ ys → x ≡ y
head_is x y xs ys e = cc

renamed_list : (f : ℕ → ℕ) (xs : List Value) → values_of (map (new_view f) xs) ≡ renamed_each f (views xs)
renamed_list f [] = refl
renamed_list f (x ∷ xs) = ap (values.value (new_view f x)) (renamed_list f xs)

pub renamed_more : (f : ℕ → ℕ) (i : ℕ) (d v : Value) (xs zs : List Value) → i < length xs → map view zs ≡ so_far f i xs → view v ≡ new_view f (get_or xs i d) → map view (slice_set zs i v) ≡ so_far f (suc i) xs
renamed_more f i d v [] zs lt is e = absurd (omega arith)
renamed_more f zero d v (x ∷ xs) [] lt is e = absurd cc
renamed_more f (suc i) d v (x ∷ xs) [] lt is e = absurd cc
renamed_more f zero d v (x ∷ xs) (z ∷ zs) lt is e = ap₂ ◌∷◌ e (tail_is _ _ _ _ is)
renamed_more f (suc i) d v (x ∷ xs) (z ∷ zs) lt is e = ap₂ ◌∷◌ (head_is _ _ _ _ is) (renamed_more f i d v xs zs (omega arith) (tail_is _ _ _ _ is) e)

so_far_all : (f : ℕ → ℕ) (i : ℕ) (xs : List Value) → length xs ≡ i → so_far f i xs ≡ map (new_view f) xs
so_far_all f zero [] e = refl
so_far_all f (suc i) [] e = refl
so_far_all f zero (x ∷ xs) e = absurd (omega arith)
so_far_all f (suc i) (x ∷ xs) e = ap (λ (vs : List ValueView). new_view f x ∷ vs) (so_far_all f i xs (omega arith))

pub renamed_all : (f : ℕ → ℕ) (i : ℕ) (xs zs : List Value) → length xs ≡ i → map view zs ≡ so_far f i xs → views zs ≡ renamed_each f (views xs)
renamed_all f i xs zs e is = ap values_of (is ∙ so_far_all f i xs e) ∙ renamed_list f xs
