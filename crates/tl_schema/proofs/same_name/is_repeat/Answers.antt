use Rattle.std.proofs.Common.{◌∙◌, Some, ap, sym, below_more, rules, true≢false, arith}
use Rattle.std.proofs.lemmas.Option.{same_Some}
use Rattle.std.proofs.lemmas.Slice.Eq.{bytes_eq-Decides}
use Rattle.tl_schema.proofs.same_name.is_repeat.Goals as goal

pub loop-j-init : goal.loop-j-init
loop-j-init c = λ k below. absurd (omega (arith, below))

pub returns-then-eq : goal.returns-then-eq
returns-then-eq c =
    let same = (bytes_eq-Decides c.part_name.result.now c.part_name-name.result.now).0 (sym c.eq.ensures ∙ c.if-eq.true) in
    (λ h. record { earlier = c.loop-j.j; item = c.part_name-name.result.now; before = c.loop-j-test.true; there = c.part_name.ensures ∙ ap Some same; here = c.part_name-name.ensures }, λ h. search rules)

pub loop-j-preserved : goal.loop-j-preserved
loop-j-preserved c =
    below_more _ _ c.loop-j.invariant (λ there. true≢false (sym ((bytes_eq-Decides c.part_name.result.now c.part_name-name.result.now).1 (same_Some _ _ (sym c.part_name.ensures ∙ there))) ∙ (sym c.eq.ensures ∙ c.if-eq.false)))

pub returns : goal.returns
returns c = (λ h. absurd (true≢false (sym h)), λ r. absurd (c.loop-j.invariant r.earlier (omega (arith, r.before, c.loop-j-test.false)) (r.there ∙ sym r.here ∙ c.part_name-name.ensures)))
