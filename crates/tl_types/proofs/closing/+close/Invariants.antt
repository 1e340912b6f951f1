use Rattle.std.proofs.Common.{◌≡◌, take, map}
use Rattle.tl_schema.specs.Closing.{closed}
use Rattle.tl_schema.specs.Seen.{shape}
use Rattle.tl_types.proofs.closing.+close.Given as goal

abbrev pub invariant-close_each-loop-item : goal.invariant-close_each-loop-item
invariant-close_each-loop-item l = map shape l.all.items ≡ map (λ t. closed (map shape l.args) (shape t)) (take l.item-index l.item-items)
