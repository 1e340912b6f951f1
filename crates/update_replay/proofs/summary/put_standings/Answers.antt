use Rattle.std.proofs.Common.{arith}
use Rattle.update_replay.proofs.Standing.{standing_end, standing_more}
use Rattle.update_replay.proofs.summary.put_standings.Goals as goal

pub loop-client-preserved : goal.loop-client-preserved
loop-client-preserved c = standing_more c.args.world.now.clients c.loop-client.client c.client.result.now c.loop-client.lines.items c.put_standing.new.lines.items _ c.client.ensures c.in_ok-put_standing.ensures c.loop-client.invariant

pub returns : goal.returns
returns c = standing_end c.args.world.now.clients c.loop-client.client c.loop-client.lines.items _ (omega (arith, c.clients-client-end.ensures.value, c.loop-client-test.false)) c.loop-client.invariant
