use Rattle.std.proofs.Common.{◌≡◌, map, max, drop}
use Rattle.tl_plan.specs.inner.Nodes.{deepest_of}
use Rattle.tl_plan.specs.inner.Tables.{node_view}
use Rattle.tl_plan.proofs.table.levels_above.Given as goal

-- the deepest so far or later is the deepest of all
abbrev pub invariant-loop-part : goal.invariant-loop-part
invariant-loop-part l = max l.deepest (deepest_of (map node_view l.nodes) (drop l.part-index l.parts)) ≡ deepest_of (map node_view l.nodes) l.parts
