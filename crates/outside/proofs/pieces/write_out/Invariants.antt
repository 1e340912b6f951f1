use Rattle.std.proofs.Common.{◌-◌, ◌≤◌, [], length, take}
use Rattle.outside.specs.Events.{put}
use Rattle.outside.specs.Steps.{Grows}
use Rattle.outside.specs.Pieces.{InPieces}
use Rattle.outside.proofs.pieces.write_out.Given as goal

abbrev pub invariant-loop-at : goal.invariant-loop-at
invariant-loop-at g l =
    let s = g.H.Host in
    record {
      within : l.at ≤ length l.bytes;
      written : Grows (s.state l.fn.host) (s.state l.host) (InPieces (put l.out) (take l.at l.bytes) []);
    }

abbrev pub decreases-loop-at : goal.decreases-loop-at
decreases-loop-at g l = length l.bytes - l.at
