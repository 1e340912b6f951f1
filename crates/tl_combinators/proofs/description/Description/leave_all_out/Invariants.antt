use Rattle.std.proofs.Common.{◌≡◌, ◌-◌, take, drop}
use Rattle.tl_combinators.specs.DescriptionSoFar.{all_left_out}
use Rattle.tl_combinators.proofs.description.Description.leave_all_out.Given as goal

abbrev pub invariant-loop-i : goal.invariant-loop-i
invariant-loop-i l = l.self ≡ all_left_out (take (l.i - l.from) (drop l.from l.tokens)) l.fn.self
