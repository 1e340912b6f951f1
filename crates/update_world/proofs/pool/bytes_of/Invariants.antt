use Rattle.std.proofs.Common.{◌≡◌, ◌*◌, ◌≤◌, take}
use Rattle.box_events.specs.declared.limits.TheConstants.{MAX_FRAME_BYTES}
use Rattle.update_world.specs.Shown.{bytes_of}
use Rattle.update_world.proofs.pool.bytes_of.Given as goal

abbrev pub invariant-loop-sent : goal.invariant-loop-sent
invariant-loop-sent l = (l.bytes ≡ bytes_of (take l.sent-index l.packets)) × (l.bytes ≤ MAX_FRAME_BYTES * l.sent-index)
