use Rattle.std.proofs.Common.{ap, subst, sym, ◌∙◌}
use Rattle.tl_plan.specs.Plans.{IsPlan}
use Rattle.tl_decode.specs.Decoders.{DecoderView}
use Rattle.tl_decode.proofs.SizesGiven.{taken_few}
use Rattle.tl_decode.proofs.piecewise.Decoder.into_value.Goals as goal

pub returns-clause-bounded : goal.returns-clause-bounded
returns-clause-bounded c = λ bytes are h T is.
    let d = c.args.self in
    taken_few d (subst (λ (z : DecoderView). IsPlan z.plan) c.self.view_is c.self.invariant.sound) bytes are h c.in-Done.value (ap (λ (z : DecoderView). z.progress) (sym c.self.view_is) ∙ c.in-Done.is) T is
