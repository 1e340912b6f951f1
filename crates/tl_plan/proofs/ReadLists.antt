-- Lists that are read element by element.
use Rattle.std.proofs.Common.{◌≡◌, ℕ, zero, suc, ◌+◌, ◌<◌, max, List, [], ◌∷◌, ◌++◌, length, map, take, drop, get_or, slice_get, Some, refl, ap, sym, ◌∙◌, arith}
use Rattle.std.proofs.lemmas.List.{map-append}
use Rattle.std.proofs.lemmas.Option.{slice_get_read}
use Rattle.std.proofs.Math.Seq.{drop-cons}
use Rattle.tl_names.proofs.Maps.{take_push}
use Rattle.tl_plan.specs.inner.Nodes.{AreBelow, NodeView, deepest_of, levels_in}

pub read_push : {X : Type 0} (xs : List X) (i : ℕ) (x : X) → i < length xs → x ≡ get_or xs i x → take (i + 1) xs ≡ take i xs ++ x ∷ []
read_push xs i x below is = take_push xs i x (slice_get_read xs (length xs) i x refl below is)

pub mapped_push : {X Y : Type 0} (f : X → Y) (xs : List X) (i : ℕ) (x : X) → i < length xs → x ≡ get_or xs i x → map f (take (i + 1) xs) ≡ map f (take i xs) ++ f x ∷ []
mapped_push f xs i x below is = ap (map f) (read_push xs i x below is) ∙ map-append f (take i xs) (x ∷ [])

-- all the elements are those before, this one and the rest
pub read_split : {X : Type 0} (xs : List X) (i : ℕ) (x : X) → i < length xs → x ≡ get_or xs i x → xs ≡ take i xs ++ x ∷ drop (i + 1) xs
read_split [] i x below is = absurd (omega (arith, below))
read_split (y ∷ xs) zero x below is = ap (λ z. z ∷ xs) (sym is)
read_split (y ∷ xs) (suc i) x below is = ap (λ zs. y ∷ zs) (read_split xs i x (omega (arith, below)) is ∙ ap (λ k. take i xs ++ x ∷ drop k (y ∷ xs)) one)
  where
    one : suc (i + 1) ≡ suc i + 1
    one = omega arith

pub read_below : (n : ℕ) (ks : List ℕ) (i : ℕ) → AreBelow n ks → i < length ks → get_or ks i 0 < n
read_below n [] i are below = absurd (omega (arith, below))
read_below n (k ∷ ks) zero are below = are.0
read_below n (k ∷ ks) (suc i) are below = read_below n ks i are.1 (omega (arith, below))

pub deepest_step : (ns : List NodeView) (ks : List ℕ) (i deepest : ℕ) (n : NodeView) → i < length ks → slice_get ns (get_or ks i 0) ≡ Some n → max (max deepest n.levels) (deepest_of ns (drop (i + 1) ks)) ≡ max deepest (deepest_of ns (drop i ks))
deepest_step ns ks i deepest n below at =
    let one : suc i ≡ i + 1 = omega arith in
    let cell : drop i ks ≡ get_or ks i 0 ∷ drop (i + 1) ks = drop-cons ks i 0 below ∙ ap (λ (j : ℕ). get_or ks i 0 ∷ drop j ks) one in
    let level : levels_in (slice_get ns (get_or ks i 0)) ≡ n.levels = ap levels_in at in
    let all : deepest_of ns (drop i ks) ≡ max (levels_in (slice_get ns (get_or ks i 0))) (deepest_of ns (drop (i + 1) ks)) = ap (deepest_of ns) cell in
    omega (arith, level, all)

pub mapped_split : {X Y : Type 0} (f : X → Y) (xs : List X) (i : ℕ) (x : X) → i < length xs → x ≡ get_or xs i x → map f xs ≡ map f (take i xs) ++ f x ∷ map f (drop (i + 1) xs)
mapped_split f xs i x below is = ap (map f) (read_split xs i x below is) ∙ map-append f (take i xs) (x ∷ drop (i + 1) xs)

pub read_number : (ks : List ℕ) (i : ℕ) → i < length ks → get_or ks i 0 ≡ get_or ks i (get_or ks i 0)
read_number [] i below = absurd (omega (arith, below))
read_number (k ∷ ks) zero below = refl
read_number (k ∷ ks) (suc i) below = read_number ks i (omega (arith, below))
