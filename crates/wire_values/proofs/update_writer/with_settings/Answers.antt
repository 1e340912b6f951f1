use Rattle.std.proofs.Common.{arith}
use Rattle.wire_values.specs.Updates.{setting_tree}
use Rattle.wire_values.proofs.OtherLists.{joined_seen}
use Rattle.wire_values.proofs.update_writer.with_settings.Goals as goal

pub returns : goal.returns
returns c = joined_seen setting_tree _ _ _ _ c.loop-setting.invariant (omega arith)
