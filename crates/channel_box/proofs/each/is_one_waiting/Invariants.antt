use Rattle.std.proofs.Common.{◌≡◌, drop}
use Rattle.channel_box.specs.States.{states}
use Rattle.channel_box.specs.Looks.{any_asks}
use Rattle.channel_box.proofs.each.is_one_waiting.Given as goal

abbrev pub invariant-loop-channel : goal.invariant-loop-channel
invariant-loop-channel l = any_asks (states (drop l.channel-index l.channels)) ≡ any_asks (states l.channels)
