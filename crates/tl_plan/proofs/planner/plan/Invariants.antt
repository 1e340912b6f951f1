use Rattle.std.proofs.Common.{◌-◌, map}
use Rattle.tl_schema.specs.Seen.{shape}
use Rattle.tl_plan.specs.declared.fault.TheConstants.{MAX_INSTANCES}
use Rattle.tl_plan.proofs.PlanSteps.{PlanSoFar}
use Rattle.tl_plan.proofs.planner.plan.Given as goal

abbrev pub invariant-loop-i : goal.invariant-loop-i
invariant-loop-i l = PlanSoFar l.schema (map shape l.roots) l.table l.queue l.instances.items l.i

abbrev pub decreases-loop-i : goal.decreases-loop-i
decreases-loop-i l = MAX_INSTANCES - l.i
