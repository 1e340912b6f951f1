-- Lists of a difference's updates: one after the other, and those of a kind.
use Rattle.std.proofs.Common.{◌≡◌, ℕ, ◌≤◌, List, [], ◌∷◌, ◌++◌, length, take, map, refl, ap, ◌∙◌}
use Rattle.std.proofs.lemmas.List.{take_all}
use Rattle.tl_types.specs.Seen.{view, views}
use Rattle.tl_types.specs.Values.{ValueView, value, values_of}
use Rattle.tl_types.specs.declared.value.Value.{Value}
use Rattle.wire_forms.specs.Parts.{row}
use Rattle.wire_values.specs.Others.{joined}

joined_values : (xs ys : List ValueView) → values_of (xs ++ ys) ≡ joined (values_of xs) (values_of ys)
joined_values [] ys = refl
joined_values (x ∷ xs) ys = ap (value x) (joined_values xs ys)

same_row : {A : Type 0} (g : A → ValueView) (us : List A) → values_of (map g us) ≡ row g us
same_row g [] = refl
same_row g (u ∷ us) = ap (value (g u)) (same_row g us)

pub joined_seen : {A : Type 0} (g : A → ValueView) (us : List A) (i : ℕ) (ws vs : List Value) → map view vs ≡ map view ws ++ map g (take i us) → length us ≤ i → views vs ≡ joined (views ws) (row g us)
joined_seen g us i ws vs e le = ap values_of e ∙ joined_values (map view ws) (map g (take i us)) ∙ ap (λ (xs : List _). joined (views ws) (values_of (map g xs))) (take_all i us le) ∙ ap (joined (views ws)) (same_row g us)
