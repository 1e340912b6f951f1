use Rattle.std.proofs.Common.{◌≡◌, take, map, None}
use Rattle.channel_box.specs.States.{states}
use Rattle.box_client.specs.Saving.{channel_saved, uneven_channel}
use Rattle.box_client.specs.Ranges.{AreChannelsInRange}
use Rattle.box_client.proofs.saving.save_channels.Given as goal

abbrev pub invariant-loop-id : goal.invariant-loop-id
invariant-loop-id l = (l.saved.items ≡ map channel_saved (take l.id-index (states l.channels))) × (uneven_channel l.saved.items ≡ None) × AreChannelsInRange l.saved.items
