use Rattle.std.proofs.Common.{take}
use Rattle.tl_names.specs.MeantViews.{NumbersNames}
use Rattle.tl_names.proofs.declarations.numbered.Given as goal

abbrev pub invariant-loop-at : goal.invariant-loop-at
invariant-loop-at l = NumbersNames (take l.at l.names) l.numbers
