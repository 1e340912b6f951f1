use Rattle.std.proofs.Common.{sym, ◌∙◌}
use Rattle.std.proofs.lemmas.List.{nil_from_length}
use Rattle.tl_layers.proofs.GraphSteps.{lists_step, lists_all}
use Rattle.tl_layers.proofs.naming.add_lists.Goals as goal

pub loop-list-preserved : goal.loop-list-preserved
loop-list-preserved c =
    lists_step c.loop-list.edges.items c.push.new.self.items c.in-Some.list c.loop-list.list-iterator.rest.items c.next.new.self.rest.items _ c.in_ok-push.ensures.items c.in-Some.ensures.steps.0 c.loop-list.invariant

pub returns : goal.returns
returns c =
    lists_all c.loop-list.edges.items c.loop-list.list-iterator.rest.items _
    (nil_from_length c.loop-list.list-iterator.rest.items (sym c.loop-list.list-iterator.rest.ok.0 ∙ c.in-None.ensures.steps.0)) c.loop-list.invariant
