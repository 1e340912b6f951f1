use Rattle.std.proofs.Common.{sym, ap, ◌∙◌, arith}
use Rattle.pts_machine.specs.Totals.{total}
use Rattle.pts_machine.proofs.Sums.{total_empty}
use Rattle.pts_machine.proofs.StateSteps.{sound_empty}
use Rattle.pts_machine.proofs.settings.Settings.forget.Goals as goal

pub invariant_of-self : goal.invariant_of-self
invariant_of-self c = record {
  sound = sound_empty _ _ _ _ _ c.clear.ensures.rest;
  total = sym (ap total c.clear.ensures.rest ∙ total_empty);
  table = omega (arith, c.self.invariant.table);
  gap = omega (arith, c.self.invariant.gap, c.clear.ensures.spare);
  few = omega (arith, c.self.invariant.few);
}
