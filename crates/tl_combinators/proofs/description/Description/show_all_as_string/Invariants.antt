use Rattle.std.proofs.Common.{◌≡◌, ◌-◌, take, drop}
use Rattle.tl_combinators.specs.DescriptionSoFar.{all_as_string}
use Rattle.tl_combinators.proofs.description.Description.show_all_as_string.Given as goal

abbrev pub invariant-loop-i : goal.invariant-loop-i
invariant-loop-i l = l.self ≡ all_as_string l.text (take (l.i - l.from) (drop l.from l.tokens)) l.fn.self
