-- Types that are a name with arguments.
use Rattle.std.proofs.Common.{◌≡◌, List, [], ◌∷◌, ℕ, length, false, Vec, Global, subst, sym, rules, arith}
use Rattle.std.specs.Prelude.{◌==◌}
use Rattle.std.specs.Vec.{vec_len}
use Rattle.std.proofs.lemmas.Bool.Decides.{nat_tests}
use Rattle.tl_program.specs.declared.tree.TypeTree.{TypeTree, Named, the_lemmas}
use Rattle.tl_program.specs.Trees.{Tree, Trees, tree, named, trees_of, view, views}

module _ (P : Tree → Type 0) (name : List ℕ) (each : (t : Tree) (ts : Trees) → P (named name (tree t ts))) where
  holds_of : (ts : List TypeTree) (n : ℕ) → n ≡ length ts → false ≡ (n == 0) → P (named name (trees_of (views ts)))
  holds_of [] n e f = absurd (grind (arith, nat_tests))
  holds_of (t ∷ ts) n e f = each (view t) (trees_of (views ts))

  -- what holds of each such type
  pub holds_of_applied : (args : Vec TypeTree Global) → false ≡ (vec_len args == 0) → P (view (Named name args))
  holds_of_applied args f =
      let v : view (Named name args) ≡ named name (trees_of (views args.items)) = search (rules, the_lemmas) in
      subst P (sym v) (holds_of args.items (vec_len args) (omega (arith, args.ok.0)) f)
