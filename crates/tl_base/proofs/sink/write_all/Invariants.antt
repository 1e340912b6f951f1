use Rattle.std.proofs.Common.{◌-◌, ◌≤◌, take, length}
use Rattle.std.specs.Io.KnownBytes.{Appends}
use Rattle.tl_base.specs.Using.{Wrote}
use Rattle.tl_base.proofs.sink.write_all.Given as goal

abbrev pub invariant-loop-at : goal.invariant-loop-at
invariant-loop-at g l =
    let s = g.K.Sink in
    record {
      within : l.at ≤ length l.piece;
      bytes : Appends (s.state l.fn.to).written (s.state l.to).written (take l.at l.piece);
      used : Wrote (s.state l.fn.to) (s.state l.to) l.at ⊥;
    }

abbrev pub decreases-loop-at : goal.decreases-loop-at
decreases-loop-at g l = length l.piece - l.at
