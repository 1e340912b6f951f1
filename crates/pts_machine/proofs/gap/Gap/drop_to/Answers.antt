use Rattle.std.proofs.Common.{arith, refl, ap, ◌∙◌, leb, length}
use Rattle.std.proofs.lemmas.List.{length-drop}
use Rattle.pts_machine.proofs.Rises.{count_of, rising_where, map_where}
use Rattle.pts_machine.proofs.gap.Gap.drop_to.Goals as goal

pub invariant_of-self : goal.invariant_of-self
invariant_of-self g c =
    let kept = c.drop_first.ensures.items in
    record {
      rising = rising_where (leb c.args.at) c.self.inside.items.items _ c.self.invariant.rising (kept ∙ c.number_below-below.ensures.rest);
      few = omega (arith, c.self.invariant.few, ap length kept, length-drop c.number_below-below.result c.self.inside.items.items);
      room = omega (arith, c.self.invariant.room, c.drop_first.ensures.len, c.drop_first.ensures.capacity);
    }

pub returns-clause-rest : goal.returns-clause-rest
returns-clause-rest g c =
    let kept = c.drop_first.ensures.items in
    map_where (leb c.args.at) c.self.inside.items.items _ c.args.self.now.held c.self.invariant.rising (kept ∙ c.number_below-below.ensures.rest) (ap (λ p. p.held) c.self.view_is)

pub returns-clause-number : goal.returns-clause-number
returns-clause-number g c =
    let kept = c.drop_first.ensures.items in
    let rising = rising_where (leb c.args.at) c.self.inside.items.items _ c.self.invariant.rising (kept ∙ c.number_below-below.ensures.rest) in
    let before = count_of c.self.inside.items.items c.args.self.now.held c.self.invariant.rising (ap (λ p. p.held) c.self.view_is) in
    let after = count_of c.drop_first.new.items.items _ rising refl in
    let within = c.number_below-below.ensures.within in
    omega (arith, before, after, within, ap length kept, length-drop c.number_below-below.result c.self.inside.items.items)
