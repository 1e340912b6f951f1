use Rattle.std.proofs.Common.{◌≤◌, ◌∙◌, ap, length, arith}
use Rattle.std.proofs.lemmas.List.{length-map}
use Rattle.tl_program.specs.Trees.{view, views}
use Rattle.tl_names.specs.Meants.{meant_by, meants_of}
use Rattle.tl_names.specs.MeantViews.{meant_view, what_in}
use Rattle.tl_names.proofs.Maps.{slice_get_item}
use Rattle.tl_names.proofs.MadeLists.{made_more, made_all}
use Rattle.tl_names.proofs.ResolvedNames.{meants_of_each}
use Rattle.tl_names.proofs.types.+types.Goals as goal

pub meant_types-loop-tree-preserved : goal.meant_types-loop-tree-preserved
meant_types-loop-tree-preserved t c =
    let at = slice_get_item view c.args.trees.now c.loop-tree.tree-index c.tree-item.result c.loop-tree-test.true c.tree-item.is in
    rw c.in_ok-push.ensures.items
    (made_more meant_view (meant_by (what_in c.args.index.now c.args.vars.now)) c.loop-tree.meant.items (views c.args.trees.now) c.loop-tree.tree-index c.loop-tree.invariant c.in_ok-meant_type.field-0 (view c.tree-item.result) at c.in_ok-meant_type.ensures)

pub meant_types-returns : goal.meant_types-returns
meant_types-returns t c =
    let all : length (views c.args.trees.now) ≤ c.loop-tree.tree-index = omega (arith, c.loop-tree-test.false, length-map c.args.trees.now view) in
    ap meants_of (made_all meant_view (meant_by (what_in c.args.index.now c.args.vars.now)) c.loop-tree.meant.items (views c.args.trees.now) c.loop-tree.tree-index c.loop-tree.invariant all)
    ∙ meants_of_each (what_in c.args.index.now c.args.vars.now) (views c.args.trees.now)
