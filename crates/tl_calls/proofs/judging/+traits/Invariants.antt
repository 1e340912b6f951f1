use Rattle.std.proofs.Common.{map, take}
use Rattle.tl_schema.specs.Seen.{shape}
use Rattle.tl_calls.specs.inner.Judging.{TraitsStandAmong}
use Rattle.tl_calls.proofs.judging.+traits.Given as goal

abbrev pub invariant-traits_among-loop-item : goal.invariant-traits_among-loop-item
invariant-traits_among-loop-item l = TraitsStandAmong l.schema l.known (map shape (take l.item-index l.item-items)) l.among
