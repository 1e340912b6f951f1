-- Elements of a prefix of a list, after it, and of those that pass a test.
use Rattle.std.proofs.Common.{◌≡◌, ℕ, zero, suc, ◌-◌, ◌<◌, ◌≤◌, List, [], ◌∷◌, ◌++◌, length, map, take, get_or, slice_get, Some, Bool, true, false, ap, sym, ◌∙◌, true≢false, arith}
use Rattle.std.specs.List.{list_any}
use Rattle.std.proofs.lemmas.Bool.{false_from_ne_true}
use Rattle.std.proofs.lemmas.List.Folds.{Any-from_list_any, list_any_at}
use Rattle.std.proofs.lemmas.Option.{slice_get-get_or, slice_get_within, get_or_from_slice_get}
use Rattle.std.proofs.lemmas.List.{get_or-take, length-take}
use Rattle.tl_names.proofs.Maps.{slice_get_item}

pub slice_get_after : {X : Type 0} (xs ys : List X) (i : ℕ) → length xs ≤ i → slice_get (xs ++ ys) i ≡ slice_get ys (i - length xs)
slice_get_after [] ys i past = let same : i ≡ i - 0 = omega arith in ap (slice_get ys) same
slice_get_after (x ∷ xs) ys zero past = absurd (omega arith)
slice_get_after (x ∷ xs) ys (suc i) past =
    let same : i - length xs ≡ suc i - suc (length xs) = omega arith in slice_get_after xs ys i (omega arith) ∙ ap (slice_get ys) same

-- an element of the first n
pub front_item : {X Y : Type 0} (f : X → Y) (xs : List X) (n i : ℕ) (x : X) → i < length (take n xs) → x ≡ get_or (take n xs) i x → (i < n) × (slice_get (map f xs) i ≡ Some (f x))
front_item f xs n i x below is =
    let within : i < n = omega (arith, below, length-take n xs) in
    let inside : i < length xs = omega (arith, below, length-take n xs) in
    (within, slice_get_item f xs i x inside (is ∙ get_or-take n xs i x within))

-- an element passes
pub any_found : {X : Type 0} (test : X → Bool) (xs : List X) → list_any test xs ≡ true → (i : ℕ) × (x : X) × (slice_get xs i ≡ Some x) × (test x ≡ true)
any_found test xs h = let a = Any-from_list_any test xs h in (a.0, a.1, slice_get-get_or xs a.0 a.1 a.2 ∙ ap Some a.3, a.4)

-- no element does
pub any_none : {X : Type 0} (test : X → Bool) (xs : List X) (i : ℕ) (x : X) → list_any test xs ≡ false → slice_get xs i ≡ Some x → test x ≡ false
any_none test xs i x h at =
    false_from_ne_true (test x) (λ e. true≢false (sym (list_any_at test xs i x (slice_get_within xs i x at) (ap test (get_or_from_slice_get xs i x x at) ∙ e)) ∙ h))
