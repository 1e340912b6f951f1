use Rattle.std.proofs.Common.{◌≡◌, drop}
use Rattle.box_client.specs.Saving.{uneven_channel}
use Rattle.box_client.proofs.loading.uneven_channel.Given as goal

abbrev pub invariant-loop-channel : goal.invariant-loop-channel
invariant-loop-channel l = uneven_channel (drop l.channel-index l.channels) ≡ uneven_channel l.channels
