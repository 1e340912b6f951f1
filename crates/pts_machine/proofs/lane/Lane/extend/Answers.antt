use Rattle.std.proofs.Common.{sym, ap, ◌∙◌, subst, arith}
use Rattle.pts_machine.specs.States.{IsSound}
use Rattle.pts_machine.specs.Views.{state_of}
use Rattle.pts_machine.specs.Steps.{extend}
use Rattle.pts_machine.proofs.Bounds.{sized_from}
use Rattle.pts_machine.proofs.Kept.{sound_extend}
use Rattle.pts_machine.proofs.Parts.{last_part, part}
use Rattle.pts_machine.proofs.lane.Lane.extend.Goals as goal

pub settle-self-inside-requires-clause-after : goal.settle-self-inside-requires-clause-after
settle-self-inside-requires-clause-after g c = λ s x e. (sized_from g.E.Counted.count c.append-self-inside.result c.self.inside.gap.held c.self.invariant.sound.sized s x (rw c.drop_to.ensures.rest at e)).0

pub invariant_of-self : goal.invariant_of-self
invariant_of-self g c =
    let a = c.append-self-inside.ensures in
    let e = c.settle-self-inside.ensures in
    let position = ap (λ p. p.state.at) c.self.view_is in
    record {
      sound = subst (IsSound g.E.Counted.count) (sym (last_part g.E.Counted.count (state_of c.self.inside) c.args.events.items _ _ _ _ _ _ c.args.last c.if-last.true a.items a.sum c.drop_to.ensures.rest e.events e.reach e.held))
          (sound_extend g.E.Counted.count (state_of c.self.inside) c.args.events.items c.args.last c.self.invariant.sound (omega (arith, position, c.requires.limit)));
      room = (let room = ap (λ p. p.spare) c.self.view_is in omega (arith, room, c.requires.room, e.sum, e.capacity, a.len, a.capacity, c.self.invariant.room, c.drop_to.ensures.number));
      gap = (let room = ap (λ p. p.spare) c.self.view_is in omega (arith, room, c.requires.room, e.spare, c.self.invariant.gap, c.drop_to.ensures.spare));
    }

pub invariant_of-self-else-last : goal.invariant_of-self-else-last
invariant_of-self-else-last g c =
    let a = c.append-self-inside.ensures in
    let position = ap (λ p. p.state.at) c.self.view_is in
    record {
      sound = subst (IsSound g.E.Counted.count) (sym (part g.E.Counted.count (state_of c.self.inside) c.args.events.items _ _ _ c.args.last c.if-last.false a.items a.sum c.drop_to.ensures.rest))
          (sound_extend g.E.Counted.count (state_of c.self.inside) c.args.events.items c.args.last c.self.invariant.sound (omega (arith, position, c.requires.limit)));
      room = (let room = ap (λ p. p.spare) c.self.view_is in omega (arith, room, c.requires.room, a.len, a.capacity, c.self.invariant.room, c.drop_to.ensures.number));
      gap = (let room = ap (λ p. p.spare) c.self.view_is in omega (arith, room, c.requires.room, c.self.invariant.gap, c.drop_to.ensures.spare));
    }

pub returns-then-last : goal.returns-then-last
returns-then-last g c =
    let a = c.append-self-inside.ensures in
    let e = c.settle-self-inside.ensures in
    record {
      step = last_part g.E.Counted.count (state_of c.self.inside) c.args.events.items _ _ _ _ _ _ c.args.last c.if-last.true a.items a.sum c.drop_to.ensures.rest e.events e.reach e.held ∙ ap (λ p. extend g.E.Counted.count p.state c.args.events.items c.args.last) c.self.view_is;
      spare = (let room = ap (λ p. p.spare) c.self.view_is in omega (arith, room, c.requires.room));
    }

pub returns-else-last : goal.returns-else-last
returns-else-last g c =
    let a = c.append-self-inside.ensures in
    record {
      step = part g.E.Counted.count (state_of c.self.inside) c.args.events.items _ _ _ c.args.last c.if-last.false a.items a.sum c.drop_to.ensures.rest ∙ ap (λ p. extend g.E.Counted.count p.state c.args.events.items c.args.last) c.self.view_is;
      spare = (let room = ap (λ p. p.spare) c.self.view_is in omega (arith, room, c.requires.room));
    }
