use Rattle.std.proofs.Common.{◌≡◌, length}
use Rattle.tl_schema.specs.Formed.{IsFormed}
use Rattle.tl_schema.specs.Types.{Shape}
use Rattle.tl_plan.specs.PlanLaws.{IsInstance}
use Rattle.tl_decode.specs.Decoders.{pieces_left}
use Rattle.codec_rooms.proofs.InputTaken.{SoFar}
use Rattle.codec_rooms.proofs.feeding.feed_input.Given as goal

abbrev pub invariant-pieces : goal.invariant-pieces
invariant-pieces g l =
    let s = g.H.Host in
    record {
      plan : l.decoder.plan ≡ l.fn.decoder.plan;
      root : l.decoder.root ≡ l.fn.decoder.root;
      width : length l.piece ≡ 8192;
      fed : (T : Shape) → IsInstance l.fn.decoder.plan l.fn.decoder.root T → IsFormed l.fn.decoder.plan.schema T → SoFar l.fn.decoder.plan.schema T (s.state l.fn.host) (s.state l.host) l.decoder l.at;
    }

abbrev pub decreases-pieces : goal.decreases-pieces
decreases-pieces g l = pieces_left l.decoder
