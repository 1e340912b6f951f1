use Rattle.std.proofs.Common.{◌≡◌, map, take}
use Rattle.tl_program.specs.Trees.{views}
use Rattle.tl_names.specs.Meants.{meant_by}
use Rattle.tl_names.specs.MeantViews.{meant_view, what_in}
use Rattle.tl_names.proofs.types.+types.Given as goal

abbrev pub invariant-meant_types-loop-tree : goal.invariant-meant_types-loop-tree
invariant-meant_types-loop-tree l = map meant_view l.meant.items ≡ map (meant_by (what_in l.index l.vars)) (take l.tree-index (views l.trees))
