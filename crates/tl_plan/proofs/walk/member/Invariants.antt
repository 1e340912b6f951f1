use Rattle.std.proofs.Common.{map, take}
use Rattle.tl_schema.specs.Seen.{slot}
use Rattle.tl_plan.specs.inner.Nodes.{types_at}
use Rattle.tl_plan.proofs.WalkSteps.{FieldsSoFar}
use Rattle.tl_plan.proofs.walk.member.Given as goal

abbrev pub invariant-loop-field : goal.invariant-loop-field
invariant-loop-field l = FieldsSoFar (types_at l.fn.table l.args) l.entry l.fn.table l.fn.queue (map slot (take l.field-index l.field-items)) l.table l.queue l.fields.items
