use Rattle.tl_layers.proofs.KeptDeclarations.{SoFar}
use Rattle.tl_layers.proofs.comparing.all_moved.Given as goal

abbrev pub invariant-loop-i : goal.invariant-loop-i
invariant-loop-i l = SoFar l.pair l.marks l.i l.moved.items l.first
