use Rattle.std.proofs.Common.{◌≡◌, replicate}
use Rattle.tl_calls.specs.inner.Judging.{plain}
use Rattle.tl_calls.proofs.judging.plain_traits.Given as goal

abbrev pub invariant-loop : goal.invariant-loop
invariant-loop l = l.all.items ≡ replicate l.counter plain
