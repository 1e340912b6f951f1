use Rattle.std.proofs.Common.{◌≡◌, length}
use Rattle.tl_base.specs.Using.{Used}
use Rattle.tl_schema.specs.Types.{Shape}
use Rattle.tl_schema.specs.Formed.{IsFormed}
use Rattle.tl_plan.specs.PlanLaws.{IsInstance}
use Rattle.tl_decode.specs.Decoders.{pieces_left}
use Rattle.tl_decode.proofs.FedWhole.{FedSoFar}
use Rattle.tl_decode.proofs.whole.feed_all.Given as goal

abbrev pub invariant-pieces : goal.invariant-pieces
invariant-pieces g l =
    let s = g.S.Source in
    record {
      plan : l.decoder.plan ≡ l.fn.decoder.plan;
      root : l.decoder.root ≡ l.fn.decoder.root;
      width : length l.piece ≡ 8192;
      fed : (T : Shape) → IsInstance l.fn.decoder.plan l.fn.decoder.root T → IsFormed l.fn.decoder.plan.schema T → FedSoFar l.fn.decoder.plan.schema T (s.state l.fn.from).left (s.state l.from).left l.decoder l.at;
      used : Used (s.state l.fn.from) (s.state l.from) ⊥;
    }

abbrev pub decreases-pieces : goal.decreases-pieces
decreases-pieces g l = pieces_left l.decoder
