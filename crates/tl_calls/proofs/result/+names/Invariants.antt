use Rattle.std.proofs.Common.{◌≡◌, drop, map}
use Rattle.tl_schema.specs.Seen.{shape}
use Rattle.tl_schema.specs.Types.{shapes_of}
use Rattle.tl_calls.specs.inner.Making.{name_in}
use Rattle.tl_calls.proofs.result.+names.Given as goal

abbrev pub invariant-name_in-loop-item : goal.invariant-name_in-loop-item
invariant-name_in-loop-item l = name_in l.var (shapes_of (map shape l.item-items)) ≡ name_in l.var (shapes_of (map shape (drop l.item-index l.item-items)))
