use Rattle.std.proofs.Common.{◌≡◌}
use Rattle.box_world.specs.Worlds.{new_clients}
use Rattle.update_world.proofs.world.new_clients.Given as goal

abbrev pub invariant-loop : goal.invariant-loop
invariant-loop l = l.clients.items ≡ new_clients l.counter
