use Rattle.std.proofs.Common.{arith, ◌<◌, length}
use Rattle.box_server.proofs.Roominess.{room_next, same_views, views_length}
use Rattle.box_server.proofs.room.reserve_each.Goals as goal

pub returns-in_err-reserve-clause-same : goal.returns-in_err-reserve-clause-same
returns-in_err-reserve-clause-same c =
    let n = views_length c.loop-i.channels.items c.args.channels.now.items c.loop-i.invariant.0 in
    same_views c.loop-i.channels.items c.args.channels.now.items c.loop-i.i c.reserve.new.self c.index_mut.result.now (omega (arith, c.loop-i-test.true, c.len-i-end.ensures, c.args.channels.now.ok.0, n)) c.index_mut.ensures.value c.reserve.ensures.same c.loop-i.invariant.0

pub loop-i-preserved : goal.loop-i-preserved
loop-i-preserved c =
    let n = views_length c.loop-i.channels.items c.args.channels.now.items c.loop-i.invariant.0 in
    let less : c.loop-i.i < length c.loop-i.channels.items = omega (arith, c.loop-i-test.true, c.len-i-end.ensures, c.args.channels.now.ok.0, n) in (
      same_views c.loop-i.channels.items c.args.channels.now.items c.loop-i.i c.reserve.new.self c.index_mut.result.now less c.index_mut.ensures.value c.reserve.ensures.same c.loop-i.invariant.0,
      room_next c.loop-i.channels.items c.args.tails.now c.loop-i.i c.reserve.new.self c.index-tails-i.result less (omega (arith, less, n, c.requires)) c.index-tails-i.is c.in_ok-reserve.ensures.ok c.loop-i.invariant.1,
    )
