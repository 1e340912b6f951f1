use Rattle.std.proofs.Common.{drop, map, replicate}
use Rattle.tl_schema.specs.Seen.{shape, slot}
use Rattle.tl_schema.specs.Types.{call}
use Rattle.tl_types.specs.Seen.{views}
use Rattle.tl_calls.specs.Results.{results}
use Rattle.tl_calls.specs.inner.Making.{AgreeOn, KnownSoFar}
use Rattle.tl_calls.proofs.result.+made_type.Given as goal

abbrev pub invariant-made_types-loop-i : goal.invariant-made_types-loop-i
invariant-made_types-loop-i l =
    KnownSoFar l.schema.decls (AgreeOn (shape l.of) (map shape l.known.items)) (map slot (drop l.i l.slots)) (views (drop l.i l.values))
    (results l.schema.decls (replicate l.vars call) (map slot l.slots) (views l.values))
