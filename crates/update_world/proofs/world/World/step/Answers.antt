use Rattle.std.proofs.Common.{◌∙◌, sym, arith}
use Rattle.update_world.proofs.Steadying.{stays_steady}
use Rattle.update_world.proofs.world.World.step.Goals as goal

pub invariant_of-self : goal.invariant_of-self
invariant_of-self c = record {
  profile = c.self.invariant.profile;
  some = omega (arith, c.make-result.ensures.clients, c.self.invariant.some);
  few = omega (arith, c.make-result.ensures.clients, c.self.invariant.few);
  steady = λ fine. stays_steady c.self.inside.profile c.self.inside.parts c.make-result.new.parts c.args.step c.make-result.result (c.self.invariant.steady c.in_default.is) c.requires.date c.make-result.ensures.clients c.make-result.ensures.step
      (sym c.spoil_of-self-inside.ensures ∙ fine);
}
