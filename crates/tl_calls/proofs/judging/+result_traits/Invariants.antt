use Rattle.std.proofs.Common.{List, drop, map, replicate}
use Rattle.tl_schema.specs.Seen.{slot}
use Rattle.tl_schema.specs.Types.{Shape, call}
use Rattle.tl_types.specs.Seen.{views}
use Rattle.tl_calls.specs.Results.{results}
use Rattle.tl_calls.specs.inner.Judging.{KnowsTraits}
use Rattle.tl_calls.specs.inner.Making.{KnownSoFar}
use Rattle.tl_calls.proofs.judging.+result_traits.Given as goal

abbrev pub invariant-called_traits-loop-i : goal.invariant-called_traits-loop-i
invariant-called_traits-loop-i l =
    KnownSoFar l.schema.decls (λ (Ts : List Shape). KnowsTraits l.schema Ts l.known.items) (map slot (drop l.i l.slots)) (views (drop l.i l.values))
    (results l.schema.decls (replicate l.vars call) (map slot l.slots) (views l.values))
