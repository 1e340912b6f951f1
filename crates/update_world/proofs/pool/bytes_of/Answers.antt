use Rattle.std.proofs.Common.{arith}
use Rattle.update_world.proofs.PoolBytes.{is_packet, one_more}
use Rattle.update_world.proofs.pool.bytes_of.Goals as goal

pub overflow_add-bytes : goal.overflow_add-bytes
overflow_add-bytes c =
    let p = is_packet c.args.packets.now c.loop-sent.sent-index c.sent-item.result c.requires.sizes c.loop-sent-test.true c.sent-item.is in
    omega (arith, p.1, c.len.ensures, c.loop-sent.invariant.1, c.loop-sent-test.true, c.requires.few)

pub loop-sent-preserved : goal.loop-sent-preserved
loop-sent-preserved c =
    let p = is_packet c.args.packets.now c.loop-sent.sent-index c.sent-item.result c.requires.sizes c.loop-sent-test.true c.sent-item.is in
    let sum = one_more c.args.packets.now c.loop-sent.sent-index c.sent-item.result c.loop-sent-test.true c.sent-item.is in
    (omega (arith, sum, c.len.ensures, c.loop-sent.invariant.0), omega (arith, p.1, c.len.ensures, c.loop-sent.invariant.1))
