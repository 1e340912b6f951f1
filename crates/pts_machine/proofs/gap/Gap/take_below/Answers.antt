use Rattle.std.proofs.Common.{arith, refl, sym, ap, ◌∙◌, Some}
use Rattle.std.proofs.lemmas.Bool.{false≢true}
use Rattle.pts_machine.proofs.Rises.{first_index, first_is, none_first, first_from, none_at_all, is_held, rising_without, map_without}
use Rattle.pts_machine.proofs.gap.Gap.take_below.Goals as goal

pub returns-in_err-start-clause-taken : goal.returns-in_err-start-clause-taken
returns-in_err-start-clause-taken g c =
    let none = none_first c.self.inside.items.items (λ some. false≢true (rw c.in_err-start.was at (c.front.ensures.variant.1 (omega (arith, some, c.self.inside.items.ok.0))))) in
    rw c.from_residual.ensures (λ s x is. absurd (none_at_all c.self.inside.items.items c.args.self.now.held s x c.self.invariant.rising (ap (λ p. p.held) c.self.view_is) none is), refl)

pub returns-then-at-start-clause-taken : goal.returns-then-at-start-clause-taken
returns-then-at-start-clause-taken g c =
    let first = first_is c.self.inside.items.items c.in_ok-start.field-0.now (omega (arith, c.in_ok-start.ensures.variant.0 refl, c.self.inside.items.ok.0)) c.in_ok-start.ensures.lookup in
    (λ s x is. first_from c.self.inside.items.items c.in_ok-start.field-0.now c.args.self.now.held c.args.at s x c.self.invariant.rising (ap (λ p. p.held) c.self.view_is) first c.if-at-start.true is, refl)

pub invariant_of-self : goal.invariant_of-self
invariant_of-self g c =
    let first = first_is c.self.inside.items.items c.in_ok-start.field-0.now (omega (arith, c.in_ok-start.ensures.variant.0 refl, c.self.inside.items.ok.0)) c.in_ok-start.ensures.lookup in
    let index = first_index c.self.inside.items.items c.in_ok-start.field-0.now first in
    record {
      rising = rw c.remove_at-held.ensures.items (rising_without c.self.inside.items.items c.in_ok-start.field-0.now.0 0 c.self.invariant.rising index);
      few = omega (arith, c.self.invariant.few, c.remove_at-held.ensures.len, c.self.inside.items.ok.0, c.remove_at-held.new.items.ok.0);
      room = omega (arith, c.self.invariant.room, c.remove_at-held.ensures.len, c.remove_at-held.ensures.capacity);
    }

pub returns-clause-taken : goal.returns-clause-taken
returns-clause-taken g c =
    let start = c.in_ok-start.field-0.now.0 in
    let first = first_is c.self.inside.items.items c.in_ok-start.field-0.now (omega (arith, c.in_ok-start.ensures.variant.0 refl, c.self.inside.items.ok.0)) c.in_ok-start.ensures.lookup in
    let index = first_index c.self.inside.items.items c.in_ok-start.field-0.now first in
    let seen = ap (λ p. p.held) c.self.view_is in (
      start,
      c.if-at-start.false,
      is_held c.self.inside.items.items start 0 c.args.self.now.held c.remove_at-held.result c.self.invariant.rising seen index ∙ ap (λ p. Some p.1) (sym c.remove_at-held.ensures.value),
      rw c.remove_at-held.ensures.items (map_without c.self.inside.items.items start 0 c.args.self.now.held c.self.invariant.rising seen index),
    )
