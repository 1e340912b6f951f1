use Rattle.tl_graph.specs.Needs.{needs_in}
use Rattle.tl_graph.proofs.MarkedNodes.{marks_none, marks_then}
use Rattle.tl_graph.proofs.marks.mark_these.Goals as goal

pub loop-k-init : goal.loop-k-init
loop-k-init c = marks_none (needs_in c.args.needs.now) c.args.marks.now.items

pub loop-k-preserved : goal.loop-k-preserved
loop-k-preserved c = marks_then (needs_in c.args.needs.now) _ _ _ c.loop-k.invariant c.mark.ensures.more
