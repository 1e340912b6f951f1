use Rattle.std.proofs.Common.{◌≡◌, drop}
use Rattle.std.specs.List.{list_any}
use Rattle.std.specs.Ordering.{int_eq}
use Rattle.box_server.proofs.opening.is_among.Given as goal

abbrev pub invariant-loop-other : goal.invariant-loop-other
invariant-loop-other l = list_any (λ i. int_eq i l.id) (drop l.other-index l.ids) ≡ list_any (λ i. int_eq i l.id) l.ids
