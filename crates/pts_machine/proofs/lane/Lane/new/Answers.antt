use Rattle.std.proofs.Common.{sym, ap, ◌∙◌, subst, arith}
use Rattle.std.specs.FinMap.{len, len-empty}
use Rattle.std.specs.Ordering.{nat_cmp}
use Rattle.pts_machine.specs.States.{IsSound}
use Rattle.pts_machine.proofs.Kept.{sound_loaded}
use Rattle.pts_machine.proofs.Parts.{fresh}
use Rattle.pts_machine.proofs.lane.Lane.new.Goals as goal

pub invariant_of-result : goal.invariant_of-result
invariant_of-result g c = record {
  sound = subst (IsSound g.E.Counted.count) (sym (fresh 0 0 _ _ g.E.Counted.count c.new-2.ensures (rw c.new.ensures.items (omega arith)))) (sound_loaded g.E.Counted.count 0 _ (rw c.new.ensures.items (omega arith)));
  room = (let none = ap len c.new-2.ensures ∙ len-empty nat_cmp _ in omega (arith, none, c.new.ensures.len));
  gap = omega arith;
}
