use Rattle.std.proofs.Common.{◌≡◌, take, map}
use Rattle.tl_schema.specs.Seen.{shape}
use Rattle.tl_types.proofs.closing.+copy_type.Given as goal

abbrev pub invariant-copy_types-loop-item : goal.invariant-copy_types-loop-item
invariant-copy_types-loop-item l = map shape l.copies.items ≡ map shape (take l.item-index l.item-items)
