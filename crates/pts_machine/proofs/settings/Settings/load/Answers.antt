use Rattle.std.proofs.Common.{sym, ap, ◌∙◌, arith}
use Rattle.std.specs.FinMap.{len}
use Rattle.pts_machine.specs.Totals.{total}
use Rattle.pts_machine.proofs.RowSteps.{len_values}
use Rattle.pts_machine.proofs.Sums.{total_empty}
use Rattle.pts_machine.proofs.StateSteps.{sound_empty}
use Rattle.pts_machine.proofs.settings.Settings.load.Goals as goal

pub invariant_of-result : goal.invariant_of-result
invariant_of-result c = record {
  sound = sound_empty _ _ _ _ _ c.new.ensures;
  total = sym (ap total c.new.ensures ∙ total_empty);
  table = omega arith;
  gap = omega arith;
  few = omega (arith, ap len c.of.ensures, len_values c.args.all.items c.requires.sorted, c.requires.few, c.args.all.ok.0);
}
