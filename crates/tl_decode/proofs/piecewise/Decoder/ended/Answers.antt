use Rattle.std.proofs.Common.{◌∙◌, ap, subst}
use Rattle.tl_plan.specs.Plans.{IsPlan}
use Rattle.tl_decode.specs.Decoders.{DecoderView}
use Rattle.tl_decode.proofs.FedBytes.{says_ended, says_value_ended}
use Rattle.tl_decode.proofs.piecewise.Decoder.ended.Goals as goal

pub returns-clause-cut_off : goal.returns-clause-cut_off
returns-clause-cut_off c = λ bytes h T is offset s other.
    ap (λ (d : DecoderView). d.at) c.self.view_is ∙ says_ended c.args.self.now (subst (λ (d : DecoderView). IsPlan d.plan) c.self.view_is c.self.invariant.sound) bytes h T is offset s other

pub returns-clause-spelled : goal.returns-clause-spelled
returns-clause-spelled c = λ bytes h T is v x rest split s deep other.
    ap (λ (d : DecoderView). d.at) c.self.view_is ∙ says_value_ended c.args.self.now (subst (λ (d : DecoderView). IsPlan d.plan) c.self.view_is c.self.invariant.sound) bytes h T is v x rest split s deep other
