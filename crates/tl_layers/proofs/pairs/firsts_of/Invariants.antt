use Rattle.tl_layers.proofs.FirstDeclarations.{FirstsSoFar}
use Rattle.tl_layers.proofs.pairs.firsts_of.Given as goal

abbrev pub invariant-loop-i : goal.invariant-loop-i
invariant-loop-i l = FirstsSoFar l.schema l.i l.firsts.items
