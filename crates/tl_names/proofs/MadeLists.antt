-- Lists of what is made of the elements of another list, one after another.
use Rattle.std.proofs.Common.{◌≡◌, ℕ, ◌+◌, ◌≤◌, List, [], ◌∷◌, ◌++◌, map, take, length, slice_get, Some, ap, ap₂, sym, ◌∙◌}
use Rattle.std.proofs.lemmas.List.{map_push, take_all}
use Rattle.tl_names.proofs.Maps.{take_push}

module _ {X Y Z : Type 0} (f : X → Z) (g : Y → Z) (made : List X) (ys : List Y) (i : ℕ) (so_far : map f made ≡ map g (take i ys)) where
  pub made_more : (x : X) (y : Y) → slice_get ys i ≡ Some y → f x ≡ g y → map f (made ++ x ∷ []) ≡ map g (take (i + 1) ys)
  made_more x y at same =
      map_push f made x ∙ ap₂ (λ zs z. zs ++ z ∷ []) so_far same ∙ sym (ap (map g) (take_push ys i y at) ∙ map_push g (take i ys) y)

  pub made_all : length ys ≤ i → map f made ≡ map g ys
  made_all past = so_far ∙ ap (map g) (take_all i ys past)
