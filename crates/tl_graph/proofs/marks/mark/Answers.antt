use Rattle.std.specs.Option.{option_map}
use Rattle.tl_graph.specs.Needs.{needs_in}
use Rattle.tl_graph.proofs.NodeLists.{made_item}
use Rattle.tl_graph.proofs.MarkedNodes.{marks_one}
use Rattle.tl_graph.proofs.marks.mark.Goals as goal

pub returns-clause-more : goal.returns-clause-more
returns-clause-more c =
    let met = rw c.deref.ensures.value at (c.is_met.ensures.0 c.if-not-is_met.false) in
    let at = made_item (option_map (λ js. js.items)) c.args.needs.now c.args.k c.in-Some.need.now c.in-Some.ensures.lookup.3.0 c.in-Some.ensures.lookup.1 in
    marks_one (needs_in c.args.needs.now) c.args.marks.now.items c.args.k _ at met
