use Rattle.std.proofs.Common.{arith, sym, ap, ◌∙◌, Some}
use Rattle.pts_machine.proofs.Maps.{untaken}
use Rattle.pts_machine.proofs.Rises.{none_held, is_held, rising_without, map_without}
use Rattle.pts_machine.proofs.gap.Gap.take.Goals as goal

pub invariant_of-self : goal.invariant_of-self
invariant_of-self g c =
    let index = c.in-Ok.ensures.index in
    record {
      rising = rw c.remove_at-held.ensures.items (rising_without c.self.inside.items.items c.args.at c.in-Ok.i c.self.invariant.rising index);
      few = omega (arith, c.self.invariant.few, c.remove_at-held.ensures.len, c.self.inside.items.ok.0, c.remove_at-held.new.items.ok.0);
      room = omega (arith, c.self.invariant.room, c.remove_at-held.ensures.len, c.remove_at-held.ensures.capacity);
    }

pub returns-in-Ok-clause-value : goal.returns-in-Ok-clause-value
returns-in-Ok-clause-value g c =
    let index = c.in-Ok.ensures.index in
    ap (λ p. Some p.1) c.remove_at-held.ensures.value
    ∙ sym (is_held c.self.inside.items.items c.args.at c.in-Ok.i c.args.self.now.held c.remove_at-held.result c.self.invariant.rising (ap (λ p. p.held) c.self.view_is) index)

pub returns-in-Ok-clause-rest : goal.returns-in-Ok-clause-rest
returns-in-Ok-clause-rest g c =
    let index = c.in-Ok.ensures.index in
    rw c.remove_at-held.ensures.items (map_without c.self.inside.items.items c.args.at c.in-Ok.i c.args.self.now.held c.self.invariant.rising (ap (λ p. p.held) c.self.view_is) index)

pub returns-in-Err-clause-value : goal.returns-in-Err-clause-value
returns-in-Err-clause-value g c =
    let index = c.in-Err.ensures.index in
    sym (none_held c.self.inside.items.items c.args.at c.in-Err.field-0 c.args.self.now.held c.self.invariant.rising (ap (λ p. p.held) c.self.view_is) index)

pub returns-in-Err-clause-rest : goal.returns-in-Err-clause-rest
returns-in-Err-clause-rest g c =
    let index = c.in-Err.ensures.index in
    untaken _ _ (none_held c.self.inside.items.items c.args.at c.in-Err.field-0 c.args.self.now.held c.self.invariant.rising (ap (λ p. p.held) c.self.view_is) index)
