use Rattle.std.proofs.Common.{arith}
use Rattle.update_replay.proofs.LineLists.{packet_more, packets_end}
use Rattle.update_replay.proofs.lines.put_packets.Goals as goal

pub loop-packet-preserved : goal.loop-packet-preserved
loop-packet-preserved c = packet_more c.args.world.now.pool c.loop-packet.packet c.packet.result.now c.as_slice.result.now c.loop-packet.lines.items c.put_packet.new.lines.items _ c.packet.ensures c.as_slice.ensures.value c.in_ok-put_packet.ensures c.loop-packet.invariant

pub returns : goal.returns
returns c = packets_end c.args.world.now.pool c.loop-packet.packet c.loop-packet.lines.items _ (omega (arith, c.packets-packet-end.ensures.value, c.loop-packet-test.false)) c.loop-packet.invariant
