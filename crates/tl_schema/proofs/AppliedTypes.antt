-- Types that are a name, applied to some types or none.
use Rattle.std.proofs.Common.{◌≡◌, List, ℕ, true, Vec, Global, ap, sym, ◌∙◌, bytes_eq, ◌↔◌}
use Rattle.std.proofs.lemmas.Slice.Eq.{bytes_eq-Decides}
use Rattle.tl_program.specs.declared.tree.TypeTree.{TypeTree, Named}
use Rattle.tl_program.specs.Trees.{Trees, named, trees_of, view, views}
use Rattle.tl_program.proofs.TreeViews.{view-Named}
use Rattle.tl_schema.specs.inner.SameNameSteps.{IsOf}

same_head : (m n : List ℕ) (ts us : Trees) → named m ts ≡ named n us → m ≡ n
same_head m n ts us e = cc

module _ (t : TypeTree) (head : List ℕ) (args : Vec TypeTree Global) (is : t ≡ Named head args) where
  seen : view t ≡ named head (trees_of (views args.items))
  seen = ap view is ∙ view-Named head args

  -- the test of the name
  pub tests_head : (name : List ℕ) → (bytes_eq head name ≡ true) ↔ IsOf name (view t)
  tests_head name = (
    λ e. (trees_of (views args.items), seen ∙ ap (λ n. named n (trees_of (views args.items))) ((bytes_eq-Decides head name).0 e)),
    λ h. (bytes_eq-Decides head name).1 (same_head _ _ _ _ (sym seen ∙ h.1)),
  )
