use Rattle.std.proofs.Common.{◌≡◌, ◌≤◌, ◌+◌, drop}
use Rattle.tl_types.specs.Seen.{views}
use Rattle.wire_profile.specs.Updates.{settings}
use Rattle.wire_profile.proofs.updates.settings.Given as goal

abbrev pub invariant-loop-update : goal.invariant-loop-update
invariant-loop-update l = (l.count + settings (views (drop l.update-index l.updates)) ≡ settings (views l.updates)) × (l.count ≤ l.update-index)
