use Rattle.std.proofs.Common.{◌≡◌, take, map}
use Rattle.tl_types.specs.Seen.{view}
use Rattle.tl_types.specs.Values.{int}
use Rattle.wire_forms.proofs.making.ids_value.Given as goal

abbrev pub invariant-loop-id : goal.invariant-loop-id
invariant-loop-id l = map view l.items.items ≡ map (λ z. int z) (take l.id-index l.ids)
