use Rattle.std.proofs.Common.{◌≡◌, None, take}
use Rattle.channel_box.specs.States.{states, first}
use Rattle.channel_box.specs.Steps.{asks_number}
use Rattle.channel_box.proofs.each.index_asking.Given as goal

abbrev pub invariant-loop-i : goal.invariant-loop-i
invariant-loop-i l = first (asks_number l.number) (states (take l.i l.channels)) ≡ None
