use Rattle.tl_graph.specs.Needs.{needs_in}
use Rattle.tl_graph.proofs.MarkedNodes.{met_is_marked}
use Rattle.tl_graph.proofs.marks.marks_of.Goals as goal

pub returns : goal.returns
returns c = λ k. (
  c.mark_all.ensures.more.sound (λ j h. absurd (c.in_ok-marks.ensures.none j h)) k,
  met_is_marked (needs_in c.args.needs.now) c.mark_all.new.marks.items c.mark_all.ensures.all,
)
