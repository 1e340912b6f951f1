use Rattle.channel_box.proofs.Loops.{Ticking}
use Rattle.channel_box.proofs.each.tick_all.Given as goal

abbrev pub invariant-loop-channel : goal.invariant-loop-channel
invariant-loop-channel l = Ticking l.fn.next l.fn.channels l.fn.asks l.channel-index l.next l.channels l.asks
