-- Types that were built, as their trees.
use Rattle.std.proofs.Common.{◌≡◌, List, [], ◌∷◌, ◌++◌, ℕ, Vec, Global, Box, ap, ◌∙◌, rules}
use Rattle.std.proofs.lemmas.List.{map_push}
use Rattle.std.specs.Box.{box_value}
use Rattle.tl_program.specs.declared.tree.TypeTree.{TypeTree, Named, Percent, AnyCall, the_lemmas}
use Rattle.tl_program.specs.Trees.{named, percent, any_call, plain, trees_of, view, views}

pub view-Named : (name : List ℕ) (args : Vec TypeTree Global) → view (Named name args) ≡ named name (trees_of (views args.items))
view-Named name args = search (rules, the_lemmas)

pub view-plain : (name : List ℕ) (args : Vec TypeTree Global) → args.items ≡ [] → view (Named name args) ≡ plain name
view-plain name args e = view-Named name args ∙ ap (λ ts. named name (trees_of (views ts))) e

pub view-Percent : (t : TypeTree) (b : Box TypeTree Global) → box_value b ≡ t → view (Percent b) ≡ percent (view t)
view-Percent t b e = search (rules, the_lemmas)

pub view-AnyCall : view AnyCall ≡ any_call
view-AnyCall = search (rules, the_lemmas)

pub views_push : (args : List TypeTree) (t : TypeTree) → views (args ++ (t ∷ [])) ≡ views args ++ (view t ∷ [])
views_push args t = map_push view args t
