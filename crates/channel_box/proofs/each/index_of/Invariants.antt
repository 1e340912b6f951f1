use Rattle.std.proofs.Common.{◌≡◌, None, take}
use Rattle.channel_box.specs.States.{states, first, has_id}
use Rattle.channel_box.proofs.each.index_of.Given as goal

abbrev pub invariant-loop-i : goal.invariant-loop-i
invariant-loop-i l = first (has_id l.id) (states (take l.i l.channels)) ≡ None
