use Rattle.channel_box.specs.Steps.{forgot}
use Rattle.channel_box.proofs.Loops.{Mapping}
use Rattle.channel_box.proofs.each.forget_all.Given as goal

abbrev pub invariant-loop-channel : goal.invariant-loop-channel
invariant-loop-channel l = Mapping forgot l.fn.channels l.channel-index l.channels
