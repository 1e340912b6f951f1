use Rattle.update_sessions.proofs.Sizes.{asks_short_as, ticks_next}
use Rattle.update_sessions.proofs.asking.put_asks.Goals as goal

pub put_calls-requires : goal.put_calls-requires
put_calls-requires c = asks_short_as c.args.client.now c.tick.new.asks c.tick.ensures.asks

pub returns-clause-next : goal.returns-clause-next
returns-clause-next c = ticks_next c.args.client.now c.tick.new.self c.tick.new.asks c.tick.ensures.step c.tick.ensures.asks c.put_calls.ensures.most
