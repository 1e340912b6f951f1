use Rattle.std.proofs.Common.{◌≡◌, ◌++◌}
use Rattle.update_replay.proofs.Standing.{standing_from}
use Rattle.update_replay.proofs.summary.put_standings.Given as goal

abbrev pub invariant-loop-client : goal.invariant-loop-client
invariant-loop-client l = l.lines.items ++ standing_from l.client l.world.clients ≡ l.fn.lines.items ++ standing_from 0 l.world.clients
