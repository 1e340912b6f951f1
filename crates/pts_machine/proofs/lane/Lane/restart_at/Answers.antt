use Rattle.std.proofs.Common.{sym, ap, ◌∙◌, subst, arith}
use Rattle.pts_machine.specs.States.{IsSound}
use Rattle.pts_machine.specs.Views.{state_of}
use Rattle.pts_machine.specs.Steps.{restart_at}
use Rattle.pts_machine.proofs.Bounds.{sized_from}
use Rattle.pts_machine.proofs.Kept.{sound_restart}
use Rattle.pts_machine.proofs.Parts.{restarted}
use Rattle.pts_machine.proofs.lane.Lane.restart_at.Goals as goal

pub settle-self-inside-requires-clause-after : goal.settle-self-inside-requires-clause-after
settle-self-inside-requires-clause-after g c = λ s x e. (sized_from g.E.Counted.count c.args.at c.self.inside.gap.held c.self.invariant.sound.sized s x (rw c.drop_to-self-inside.ensures.rest at e)).0

pub invariant_of-self : goal.invariant_of-self
invariant_of-self g c =
    let e = c.settle-self-inside.ensures in
    record {
      sound = subst (IsSound g.E.Counted.count) (sym (restarted g.E.Counted.count (state_of c.self.inside) _ _ c.args.at _ _ _ c.clear.ensures.items c.drop_to-self-inside.ensures.rest e.events e.reach e.held))
          (sound_restart g.E.Counted.count (state_of c.self.inside) c.args.at c.self.invariant.sound c.requires.limit);
      room = omega (arith, e.sum, e.capacity, c.self.invariant.room, c.drop_to-self-inside.ensures.number, c.clear.ensures.len, c.clear.ensures.capacity);
      gap = omega (arith, e.spare, c.self.invariant.gap, c.drop_to-self-inside.ensures.spare);
    }

pub returns : goal.returns
returns g c =
    let e = c.settle-self-inside.ensures in
    record {
      step = restarted g.E.Counted.count (state_of c.self.inside) _ _ c.args.at _ _ _ c.clear.ensures.items c.drop_to-self-inside.ensures.rest e.events e.reach e.held ∙ ap (λ p. restart_at g.E.Counted.count p.state c.args.at) c.self.view_is;
      spare = (let room = ap (λ p. p.spare) c.self.view_is in omega (arith, room));
    }
