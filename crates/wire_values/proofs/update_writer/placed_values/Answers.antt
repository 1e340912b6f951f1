use Rattle.std.proofs.Common.{arith}
use Rattle.wire_values.specs.Updates.{placed_tree}
use Rattle.wire_forms.proofs.Lists.{row_seen}
use Rattle.wire_values.proofs.update_writer.placed_values.Goals as goal

pub returns : goal.returns
returns c = row_seen placed_tree _ _ _ c.loop-placed.invariant (omega arith)
