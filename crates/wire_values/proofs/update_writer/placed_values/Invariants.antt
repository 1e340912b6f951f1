use Rattle.std.proofs.Common.{◌≡◌, take, map}
use Rattle.tl_types.specs.Seen.{view}
use Rattle.wire_values.specs.Updates.{placed_tree}
use Rattle.wire_values.proofs.update_writer.placed_values.Given as goal

abbrev pub invariant-loop-placed : goal.invariant-loop-placed
invariant-loop-placed l = map view l.items.items ≡ map placed_tree (take l.placed-index l.others)
