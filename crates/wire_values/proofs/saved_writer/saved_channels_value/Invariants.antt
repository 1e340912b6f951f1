use Rattle.std.proofs.Common.{◌≡◌, take, map}
use Rattle.tl_types.specs.Seen.{view}
use Rattle.wire_values.specs.SavedClients.{saved_channel_tree}
use Rattle.wire_values.proofs.saved_writer.saved_channels_value.Given as goal

abbrev pub invariant-loop-channel : goal.invariant-loop-channel
invariant-loop-channel l = map view l.items.items ≡ map saved_channel_tree (take l.channel-index l.channels)
