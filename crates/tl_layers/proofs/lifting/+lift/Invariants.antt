use Rattle.std.proofs.Common.{◌≡◌, take, map}
use Rattle.tl_types.specs.Seen.{view, views}
use Rattle.tl_layers.specs.inner.Tables.{moved_by, moved_each, picked}
use Rattle.tl_layers.proofs.lifting.+lift.Given as goal

abbrev pub invariant-lift_all-loop-value : goal.invariant-lift_all-loop-value
invariant-lift_all-loop-value l = map view l.lifted.items ≡ map (λ v. moved_by l.moved (view v)) (take l.value-index l.values)

abbrev pub invariant-pick_all-loop-origin : goal.invariant-pick_all-loop-origin
invariant-pick_all-loop-origin l = map view l.lifted.items ≡ map (picked (moved_each l.moved (views l.fields))) (take l.origin-index l.from)
