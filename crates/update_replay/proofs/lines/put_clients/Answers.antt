use Rattle.std.proofs.Common.{arith}
use Rattle.update_replay.proofs.LineLists.{client_more, clients_end}
use Rattle.update_replay.proofs.lines.put_clients.Goals as goal

pub loop-client-preserved : goal.loop-client-preserved
loop-client-preserved c = client_more c.args.world.now.clients c.loop-client.client c.client.result.now c.loop-client.lines.items c.put_client.new.lines.items _ c.client.ensures c.in_ok-put_client.ensures c.loop-client.invariant

pub returns : goal.returns
returns c = clients_end c.args.world.now.clients c.loop-client.client c.loop-client.lines.items _ (omega (arith, c.clients-client-end.ensures.value, c.loop-client-test.false)) c.loop-client.invariant
