use Rattle.std.proofs.Common.{◌≡◌, take, map}
use Rattle.tl_types.specs.Seen.{view}
use Rattle.tl_types.specs.Values.{text}
use Rattle.wire_forms.proofs.making.bodies_value.Given as goal

abbrev pub invariant-loop-body : goal.invariant-loop-body
invariant-loop-body l = map view l.items.items ≡ map (λ s. text s) (take l.body-index l.bodies)
