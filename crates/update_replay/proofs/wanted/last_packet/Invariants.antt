use Rattle.std.proofs.Common.{◌≡◌, ◌-◌, None, drop, length}
use Rattle.box_world.specs.Worlds.{World}
use Rattle.update_replay.specs.Made.{last_where}
use Rattle.update_world.specs.Shown.{StandsFor}
use Rattle.update_replay.specs.Wanting.{is_wanted}
use Rattle.update_replay.proofs.wanted.last_packet.Given as goal

abbrev pub invariant-loop-later : goal.invariant-loop-later
invariant-loop-later l = (w : World) → StandsFor l.world w → last_where (is_wanted l.wanted) (length l.world.pool - l.later) (drop (length l.world.pool - l.later) w.pool) ≡ None
