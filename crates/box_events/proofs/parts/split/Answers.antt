use Rattle.std.proofs.Common.{arith, ap}
use Rattle.box_events.specs.Boxes.{ending}
use Rattle.box_events.proofs.Joined.{ending_before}
use Rattle.box_events.proofs.parts.split.Goals as goal

pub add-requires : goal.add-requires
add-requires c =
    let i = c.loop-event.invariant in
    let few = ending_before c.args.events.now c.loop-event.event-index c.event-item.result c.loop-event-test.true c.event-item.is in
    record { limit = omega (arith, i.from, ap ending i.events, few, c.requires.limit) }
