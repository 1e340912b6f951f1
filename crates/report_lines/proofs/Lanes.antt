-- Lanes end within a box's limit.
use Rattle.std.proofs.Common.{arith}
use Rattle.box_events.specs.Events.{EventView, count_of}
use Rattle.pts_machine.specs.States.{LaneState, IsSound}
use Rattle.channel_box.proofs.Brought.{ending_sums}
use Rattle.report_lines.specs.Watched.{EndsInLimit}

pub ends_in_limit : (t : LaneState EventView) → IsSound count_of t → EndsInLimit t
ends_in_limit t s = omega (arith, s.position, s.limit, ending_sums t.events)
