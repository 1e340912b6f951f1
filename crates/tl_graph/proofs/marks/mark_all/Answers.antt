use Rattle.std.proofs.Common.{◌∙◌}
use Rattle.tl_graph.specs.Needs.{needs_in}
use Rattle.tl_graph.proofs.MarkedNodes.{marks_then}
use Rattle.tl_graph.proofs.marks.mark_all.Goals as goal

pub loop-init : goal.loop-init
loop-init c = record { count = c.mark_these.ensures.count ∙ c.requires.same; more = c.mark_these.ensures }

pub loop-preserved : goal.loop-preserved
loop-preserved c = record {
  count = c.mark_more.ensures.more.count ∙ c.loop.invariant.count;
  more = marks_then (needs_in c.args.needs.now) _ _ _ c.loop.invariant.more c.mark_more.ensures.more;
}

pub loop-smaller : goal.loop-smaller
loop-smaller c = c.mark_more.ensures.fewer c.loop-test.true

pub returns : goal.returns
returns c = record {
  more = marks_then (needs_in c.args.needs.now) _ _ _ c.loop.invariant.more c.mark_more.ensures.more;
  all = c.mark_more.ensures.all c.loop-test.false;
}
