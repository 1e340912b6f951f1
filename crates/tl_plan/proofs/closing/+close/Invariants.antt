use Rattle.std.proofs.Common.{map, take}
use Rattle.tl_schema.specs.Seen.{shape}
use Rattle.tl_plan.proofs.ClosedNodes.{ClosedSoFar}
use Rattle.tl_plan.proofs.closing.+close.Given as goal

abbrev pub invariant-close_each-loop-item : goal.invariant-close_each-loop-item
invariant-close_each-loop-item l = ClosedSoFar l.fn.table l.args (map shape (take l.item-index l.item-items)) l.table l.all.items
