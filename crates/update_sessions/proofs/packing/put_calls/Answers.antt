use Rattle.update_sessions.specs.Packed.{SpellsCall}
use Rattle.update_sessions.proofs.Sizes.{packed_more}
use Rattle.update_sessions.proofs.packing.put_calls.Goals as goal

pub loop-i-preserved : goal.loop-i-preserved
loop-i-preserved c = packed_more (SpellsCall c.args.profile.now) c.args.asks.now c.loop-i.i c.get.result c.loop-i.out c.put_call.new.out c.get.ensures.value c.loop-i.invariant c.in_ok-put_call.ensures
