use Rattle.channel_box.proofs.Loops.{Reserving}
use Rattle.channel_box.proofs.each.reserve_all.Given as goal

abbrev pub invariant-loop-channel : goal.invariant-loop-channel
invariant-loop-channel l = Reserving l.updates l.fn.channels l.channel-index l.channels
