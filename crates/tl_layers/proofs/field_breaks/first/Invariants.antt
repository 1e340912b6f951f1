use Rattle.std.proofs.Common.{ℕ, ◌<◌}
use Rattle.tl_layers.specs.inner.FieldBreaks.{HasCause}
use Rattle.tl_layers.proofs.field_breaks.first.Given as goal

abbrev pub invariant-loop-k : goal.invariant-loop-k
invariant-loop-k l = (j : ℕ) → j < l.k → HasCause l.pair l.olds l.news l.cause j → ⊥
