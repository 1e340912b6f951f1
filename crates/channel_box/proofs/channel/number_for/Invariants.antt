use Rattle.std.proofs.Common.{◌≡◌, ◌≤◌, ◌+◌, drop}
use Rattle.channel_box.specs.Calls.{updates_for}
use Rattle.channel_box.proofs.channel.number_for.Given as goal

abbrev pub invariant-loop-update : goal.invariant-loop-update
invariant-loop-update l = (l.number + updates_for l.id (drop l.update-index l.updates) ≡ updates_for l.id l.updates) × (l.number ≤ l.update-index)
