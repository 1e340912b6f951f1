use Rattle.std.proofs.Common.{arith, ap, ◌∙◌, [], ◌∷◌, length}
use Rattle.std.proofs.lemmas.List.{length_push}
use Rattle.box_events.specs.Boxes.{ending}
use Rattle.box_events.proofs.Boundaries.{ending-append}
use Rattle.box_server.proofs.tail.Tail.add.Goals as goal

pub invariant_of-self-2 : goal.invariant_of-self-2
invariant_of-self-2 c =
    let sum = ap ending c.in_ok-push.ensures.items ∙ ending-append c.self.inside.events.items (c.args.event ∷ []) in
    let old = c.self.invariant in
    record { stop = omega (arith, sum, old.stop, c.count-count.ensures.value); limit = omega (arith, old.limit, c.if-count-self.false); counted = omega (arith, old.counted, sum, c.count-count.ensures.value, c.count-count.ensures.some, ap length c.in_ok-push.ensures.items, length_push c.self.inside.events.items c.args.event) }
