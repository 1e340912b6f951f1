use Rattle.std.proofs.Common.{sym, ap, ◌∙◌, subst, arith}
use Rattle.std.specs.FinMap.{len, len-empty}
use Rattle.std.specs.Ordering.{nat_cmp}
use Rattle.pts_machine.specs.States.{IsSound}
use Rattle.pts_machine.proofs.Kept.{sound_loaded}
use Rattle.pts_machine.proofs.Parts.{fresh}
use Rattle.pts_machine.proofs.lane.Lane.load.Goals as goal

pub invariant_of-result : goal.invariant_of-result
invariant_of-result g c = record {
  sound = subst (IsSound g.E.Counted.count) (sym (fresh c.args.restart _ _ _ g.E.Counted.count c.new.ensures (rw c.deref.ensures.value at c.end_of-at.ensures.sum))) (sound_loaded g.E.Counted.count c.args.restart _ c.requires.limit);
  room = (let none = ap len c.new.ensures ∙ len-empty nat_cmp _ in omega (arith, none, c.args.events.ok.1));
  gap = omega arith;
}
