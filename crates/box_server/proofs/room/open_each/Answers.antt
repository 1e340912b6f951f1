use Rattle.box_server.proofs.Roominess.{room_push, views_push, taken_length}
use Rattle.box_server.proofs.room.open_each.Goals as goal

pub loop-tail-preserved : goal.loop-tail-preserved
loop-tail-preserved c = (
  views_push c.loop-tail.channels.items c.push.new.self.items c.args.tails.now c.loop-tail.tail-index c.in_ok-open.field-0 c.tail-item.result c.loop-tail-test.true c.tail-item.is c.in_ok-push.ensures.items c.in_ok-open.ensures.empty c.loop-tail.invariant.0,
  rw c.in_ok-push.ensures.items (room_push c.loop-tail.channels.items c.args.tails.now c.loop-tail.tail-index c.in_ok-open.field-0 c.tail-item.result c.loop-tail-test.true
      (taken_length c.loop-tail.channels.items c.args.tails.now c.loop-tail.tail-index c.loop-tail.auto.tail-index-end c.loop-tail.invariant.0) c.tail-item.is c.in_ok-open.ensures.room c.loop-tail.invariant.1),
)
