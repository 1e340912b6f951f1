use Rattle.std.proofs.Common.{sym, subst}
use Rattle.tl_schema.specs.Schemas.{Declared}
use Rattle.tl_schema.specs.Seen.{shape}
use Rattle.outside.specs.Runs.{answered}
use Rattle.codec_rooms.specs.Decode.{verdict}
use Rattle.codec_rooms.specs.inner.Feeding.{PrintsVerdict}
use Rattle.codec_rooms.proofs.Decoding.{read_printed}
use Rattle.codec_rooms.proofs.decode.decode_open.Goals as goal

pub returns : goal.returns
returns g c =
    let T = shape c.args.of.now in
    let got = verdict c.read_value-got.result in
    read_printed c.args.plan.now.schema T got _ _ _ _ (c.read_value-got.ensures T c.requires.instance c.requires.formed)
    (subst (λ (S : Declared). PrintsVerdict S T got (g.H.Host.state c.read_value-got.new.host) (g.H.Host.state c.print_verdict.new.host) (answered c.print_verdict.result)) c.schema.ensures c.print_verdict.ensures)
