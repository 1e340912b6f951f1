use Rattle.std.proofs.Common.{◌+◌, length, get_or, map, refl, ap, sym, ◌∙◌, max, drop}
use Rattle.std.specs.Option.{option_map}
use Rattle.std.proofs.lemmas.Option.{slice_get-map, slice_get_read}
use Rattle.tl_plan.specs.inner.Nodes.{deepest_of}
use Rattle.tl_plan.specs.inner.Tables.{node_view}
use Rattle.tl_plan.specs.declared.table.Node.{Node}
use Rattle.tl_plan.proofs.ReadLists.{deepest_step, read_below}
use Rattle.tl_plan.proofs.table.levels_above.Goals as goal

pub bounds-nodes-part : goal.bounds-nodes-part
bounds-nodes-part c = read_below (length c.args.nodes.now) c.args.parts.now c.loop-part.part-index c.requires c.loop-part-test.true

pub bounds-nodes-part-in-loop-part : goal.bounds-nodes-part-in-loop-part
bounds-nodes-part-in-loop-part c = read_below (length c.args.nodes.now) c.args.parts.now c.loop-part.part-index c.requires c.loop-part-test.true

pub loop-part-preserved : goal.loop-part-preserved
loop-part-preserved c =
    let k = get_or c.args.parts.now c.loop-part.part-index 0 in
    let at = slice_get_read c.args.nodes.now (length c.args.nodes.now) k c.index-nodes-part.result refl (read_below (length c.args.nodes.now) c.args.parts.now c.loop-part.part-index c.requires c.loop-part-test.true) c.index-nodes-part.is in
    ap (λ d. max d (deepest_of (map node_view c.args.nodes.now) (drop (c.loop-part.part-index + 1) c.args.parts.now))) (c.max-deepest.ensures ∙ ap (λ (n : Node). max c.loop-part.deepest n.levels) (sym c.index-nodes-part.is))
    ∙ deepest_step (map node_view c.args.nodes.now) c.args.parts.now c.loop-part.part-index c.loop-part.deepest (node_view c.index-nodes-part.result) c.loop-part-test.true (slice_get-map node_view c.args.nodes.now k ∙ ap (option_map node_view) at)
    ∙ c.loop-part.invariant
