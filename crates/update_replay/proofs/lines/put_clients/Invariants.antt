use Rattle.std.proofs.Common.{◌≡◌, ◌++◌, drop}
use Rattle.update_replay.specs.Told.{all_own_lines}
use Rattle.update_replay.proofs.lines.put_clients.Given as goal

abbrev pub invariant-loop-client : goal.invariant-loop-client
invariant-loop-client l = l.lines.items ++ all_own_lines l.client (drop l.client l.world.clients) ≡ l.fn.lines.items ++ all_own_lines 0 l.world.clients
