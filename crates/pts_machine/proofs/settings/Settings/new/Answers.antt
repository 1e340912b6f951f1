use Rattle.std.proofs.Common.{List, ℕ, sym, ap, ◌∙◌, arith}
use Rattle.std.specs.Ordering.{nat_cmp}
use Rattle.std.specs.Cmp.Lexicographic.{slice_cmp}
use Rattle.std.specs.FinMap.{len, len-empty}
use Rattle.pts_machine.specs.Totals.{total}
use Rattle.pts_machine.proofs.Sums.{total_empty}
use Rattle.pts_machine.proofs.StateSteps.{sound_empty}
use Rattle.pts_machine.proofs.settings.Settings.new.Goals as goal

pub invariant_of-result : goal.invariant_of-result
invariant_of-result c = record {
  sound = sound_empty _ _ _ _ _ c.new.ensures;
  total = sym (ap total c.new.ensures ∙ total_empty);
  table = omega arith;
  gap = omega arith;
  few = omega (arith, ap len c.new-2.ensures, len-empty (slice_cmp nat_cmp) (List ℕ));
}
