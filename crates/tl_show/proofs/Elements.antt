-- The elements of a list, one after the other.
use Rattle.std.proofs.Common.{◌≡◌, ℕ, ◌≤◌, List, [], ◌∷◌, length, map, take, refl, ap, ◌∙◌}
use Rattle.std.proofs.lemmas.List.{take_all}
use Rattle.serde_json.specs.Data.{item}
use Rattle.serde_json.specs.View.{view as data_of, items_of, items_view}
use Rattle.serde_json.specs.declared.value.Value as json
use Rattle.tl_schema.specs.Types.{Shape}
use Rattle.tl_schema.specs.Schemas.{Declaration}
use Rattle.tl_types.specs.Seen.{view, views}
use Rattle.tl_types.specs.declared.value.Value.{Value}
use Rattle.tl_show.specs.Shown.{shown, shown_each}

each_shown : (ds : List Declaration) (T : Shape) (vs : List Value) → items_of (map (λ v. shown ds T (view v)) vs) ≡ shown_each ds T (views vs)
each_shown ds T [] = refl
each_shown ds T (v ∷ vs) = ap (item (shown ds T (view v))) (each_shown ds T vs)

pub all_shown : (ds : List Declaration) (T : Shape) (vs xs : List Value) (js : List json.Value) (i : ℕ)
    → xs ≡ vs → map data_of js ≡ map (λ v. shown ds T (view v)) (take i xs) → length xs ≤ i → items_view js ≡ shown_each ds T (views vs)
all_shown ds T vs xs js i same h past =
    ap items_of (h ∙ ap (map (λ v. shown ds T (view v))) (take_all i xs past ∙ same)) ∙ each_shown ds T vs
