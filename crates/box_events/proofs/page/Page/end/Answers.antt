use Rattle.std.proofs.Common.{◌∙◌, ap}
use Rattle.box_events.specs.BoxViews.{end_of}
use Rattle.box_events.proofs.RunningEnds.{end_some, end_none}
use Rattle.box_events.proofs.page.Page.end.Goals as goal

pub returns-in-Some : goal.returns-in-Some
returns-in-Some c =
    end_some c.self.inside.first c.self.inside.events.items c.deref.result.now c.in-Some.end.now (c.deref.ensures.value ∙ c.self.invariant.ends) c.in-Some.ensures.value ∙ ap end_of c.self.view_is

pub returns-in-None : goal.returns-in-None
returns-in-None c =
    end_none c.self.inside.first c.self.inside.events.items c.deref.result.now (c.deref.ensures.value ∙ c.self.invariant.ends) c.in-None.ensures.value ∙ ap end_of c.self.view_is
