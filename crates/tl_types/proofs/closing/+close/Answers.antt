use Rattle.std.proofs.Common.{arith, map}
use Rattle.tl_schema.specs.Seen.{shape}
use Rattle.tl_types.proofs.ClosedLists.{all_closed}
use Rattle.tl_types.proofs.closing.+close.Goals as goal

pub close_each-returns : goal.close_each-returns
close_each-returns t c = record { closed = rw (← c.deref-item-items.ensures.value) (all_closed (map shape c.args.args.now) c.deref-item-items.result.now _ c.loop-item.item-index c.loop-item.invariant (omega arith)) }
