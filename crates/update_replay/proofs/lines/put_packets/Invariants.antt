use Rattle.std.proofs.Common.{◌≡◌, ◌++◌}
use Rattle.update_replay.specs.StepLines.{packet_lines}
use Rattle.update_replay.specs.WorldLines.{bytes_from}
use Rattle.update_replay.proofs.lines.put_packets.Given as goal

abbrev pub invariant-loop-packet : goal.invariant-loop-packet
invariant-loop-packet l = l.lines.items ++ packet_lines l.packet (bytes_from l.packet l.world.pool) ≡ l.fn.lines.items ++ packet_lines l.first (bytes_from l.first l.world.pool)
