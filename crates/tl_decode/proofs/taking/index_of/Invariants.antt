use Rattle.std.proofs.Common.{◌≤◌, ◌-◌, length}
use Rattle.tl_decode.specs.inner.Frames.{entries_shown}
use Rattle.tl_decode.proofs.Searches.{Between}
use Rattle.tl_decode.proofs.taking.index_of.Given as goal

abbrev pub invariant-loop-high : goal.invariant-loop-high
invariant-loop-high l = record { between : Between (entries_shown l.members) l.entry l.low l.high; most : l.high ≤ length l.members }

abbrev pub decreases-loop-high : goal.decreases-loop-high
decreases-loop-high l = l.high - l.low
