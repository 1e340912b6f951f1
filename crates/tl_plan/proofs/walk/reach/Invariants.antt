use Rattle.std.proofs.Common.{map, take}
use Rattle.tl_schema.specs.Seen.{shape}
use Rattle.tl_plan.proofs.RootSteps.{RootsSoFar}
use Rattle.tl_plan.proofs.walk.reach.Given as goal

abbrev pub invariant-loop-root : goal.invariant-loop-root
invariant-loop-root l = RootsSoFar l.schema l.fn.table l.fn.queue (map shape (take l.root-index l.roots)) l.table l.queue
