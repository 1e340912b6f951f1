use Rattle.std.proofs.Common.{map, take}
use Rattle.tl_plan.specs.Seen.{member_view}
use Rattle.tl_plan.specs.inner.Nodes.{types_at}
use Rattle.tl_plan.proofs.WalkSteps.{MembersSoFar}
use Rattle.tl_plan.proofs.walk.record.Given as goal

abbrev pub invariant-loop-entry : goal.invariant-loop-entry
invariant-loop-entry l = MembersSoFar l.schema (types_at l.fn.table l.args) l.fn.table l.fn.queue (take l.entry-index l.of.entries.now) l.table l.queue (map member_view l.members.items)
