use Rattle.std.proofs.Common.{◌≡◌, take, map}
use Rattle.tl_types.specs.Seen.{view}
use Rattle.wire_values.specs.Updates.{update_tree}
use Rattle.wire_values.proofs.update_writer.updates_value.Given as goal

abbrev pub invariant-loop-update : goal.invariant-loop-update
invariant-loop-update l = map view l.items.items ≡ map update_tree (take l.update-index l.updates)
