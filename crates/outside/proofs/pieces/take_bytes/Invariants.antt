use Rattle.std.proofs.Common.{◌≡◌, ◌-◌, ◌≤◌, [], length, vec_len}
use Rattle.tl_numbers.specs.Bytes.{AreBytes}
use Rattle.outside.specs.Events.{took}
use Rattle.outside.specs.Steps.{Grows}
use Rattle.outside.specs.Pieces.{InPieces}
use Rattle.outside.proofs.pieces.take_bytes.Given as goal

abbrev pub invariant-loop-slot : goal.invariant-loop-slot
invariant-loop-slot g l =
    let s = g.H.Host in
    record {
      few : vec_len l.text ≤ l.count;
      room : length l.piece ≡ 4096;
      are : AreBytes l.text.items;
      taken : Grows (s.state l.fn.host) (s.state l.host) (InPieces (took l.slot) l.text.items []);
    }

abbrev pub decreases-loop-slot : goal.decreases-loop-slot
decreases-loop-slot g l = l.count - vec_len l.text
