use Rattle.std.proofs.Common.{sym, ap, ◌∙◌, subst, arith}
use Rattle.std.specs.FinMap.{len, len-empty}
use Rattle.std.specs.Ordering.{nat_cmp}
use Rattle.pts_machine.specs.States.{IsSound}
use Rattle.pts_machine.specs.Views.{state_of}
use Rattle.pts_machine.specs.Steps.{forget}
use Rattle.pts_machine.proofs.Kept.{sound_forget}
use Rattle.pts_machine.proofs.Parts.{forgotten}
use Rattle.pts_machine.proofs.lane.Lane.forget.Goals as goal

pub invariant_of-self : goal.invariant_of-self
invariant_of-self g c = record {
  sound = subst (IsSound g.E.Counted.count) (sym (forgotten (state_of c.self.inside) _ c.clear.ensures.rest)) (sound_forget g.E.Counted.count (state_of c.self.inside) c.self.invariant.sound);
  room = (let none = ap len c.clear.ensures.rest ∙ len-empty nat_cmp _ in omega (arith, none, c.self.invariant.room));
  gap = omega (arith, c.self.invariant.gap, c.clear.ensures.spare);
}

pub returns : goal.returns
returns g c = record {
  step = forgotten (state_of c.self.inside) _ c.clear.ensures.rest ∙ ap (λ p. forget p.state) c.self.view_is;
  spare = (let room = ap (λ p. p.spare) c.self.view_is in omega (arith, room));
}
