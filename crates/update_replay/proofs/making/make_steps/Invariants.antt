use Rattle.update_replay.proofs.MadeStepping.{Going}
use Rattle.update_replay.proofs.making.make_steps.Given as goal

abbrev pub invariant-loop-k : goal.invariant-loop-k
invariant-loop-k l = Going l.number l.k l.at l.from.number l.world
