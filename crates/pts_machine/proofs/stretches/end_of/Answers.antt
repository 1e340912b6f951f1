use Rattle.std.proofs.Common.{◌≡◌, ◌+◌, take, sym, ap, ◌∙◌, arith}
use Rattle.std.specs.List.{sum_by}
use Rattle.std.proofs.lemmas.List.Sums.{sum_by_more, sum_by-take-le}
use Rattle.pts_machine.proofs.stretches.end_of.Goals as goal

pub overflow_add-at : goal.overflow_add-at
overflow_add-at g c =
    let some : sum_by g.E.Counted.count (take (c.loop-event.event-index + 1) c.args.events.now) ≡ sum_by g.E.Counted.count (take c.loop-event.event-index c.args.events.now) + g.E.Counted.count c.event-item.result = sum_by_more g.E.Counted.count c.args.events.now c.loop-event.event-index c.event-item.result c.loop-event-test.true ∙ ap (λ x. sum_by g.E.Counted.count (take c.loop-event.event-index c.args.events.now) + g.E.Counted.count x) (sym c.event-item.is) in
    omega (arith, some, c.loop-event.invariant, c.requires.limit, c.count-at.ensures.value, sum_by-take-le g.E.Counted.count c.args.events.now (c.loop-event.event-index + 1))

pub loop-event-preserved : goal.loop-event-preserved
loop-event-preserved g c =
    let some : sum_by g.E.Counted.count (take (c.loop-event.event-index + 1) c.args.events.now) ≡ sum_by g.E.Counted.count (take c.loop-event.event-index c.args.events.now) + g.E.Counted.count c.event-item.result = sum_by_more g.E.Counted.count c.args.events.now c.loop-event.event-index c.event-item.result c.loop-event-test.true ∙ ap (λ x. sum_by g.E.Counted.count (take c.loop-event.event-index c.args.events.now) + g.E.Counted.count x) (sym c.event-item.is) in
    omega (arith, some, c.loop-event.invariant, c.count-at.ensures.value)
