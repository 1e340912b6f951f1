use Rattle.std.proofs.Common.{◌≡◌, map, replicate}
use Rattle.tl_schema.specs.Seen.{shape}
use Rattle.tl_schema.specs.Types.{call}
use Rattle.tl_calls.proofs.result.any_calls.Given as goal

abbrev pub invariant-loop : goal.invariant-loop
invariant-loop l = map shape l.all.items ≡ replicate l.counter call
