use Rattle.channel_box.specs.Steps.{flagged}
use Rattle.channel_box.proofs.Loops.{Mapping}
use Rattle.channel_box.proofs.each.wake_all.Given as goal

abbrev pub invariant-loop-channel : goal.invariant-loop-channel
invariant-loop-channel l = Mapping flagged l.fn.channels l.channel-index l.channels
