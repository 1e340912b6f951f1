use Rattle.std.proofs.Common.{◌≡◌, length}
use Rattle.tl_base.specs.Using.{Used}
use Rattle.tl_decode.specs.Decoders.{pieces_left}
use Rattle.callers.proofs.pieces.value_from.Given as goal

abbrev pub invariant-pieces : goal.invariant-pieces
invariant-pieces g l =
    let s = g.S.Source in
    record {
      width : length l.piece ≡ 512;
      used : Used (s.state l.fn.from) (s.state l.from) ⊥;
    }

abbrev pub decreases-pieces : goal.decreases-pieces
decreases-pieces g l = pieces_left l.decoder
