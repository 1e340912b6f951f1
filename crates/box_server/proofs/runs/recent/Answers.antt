use Rattle.std.proofs.Common.{◌∙◌}
use Rattle.box_events.specs.Weaving.{bodies}
use Rattle.box_server.proofs.RunSteps.{last_told}
use Rattle.box_server.proofs.runs.recent.Goals as goal

pub returns : goal.returns
returns c =
    c.from_vec.ensures
    ∙ last_told (bodies c.args.events.now.events) c.in_ok-recent.recent.items c.reverse-2.new.self.items c.in_ok-messages.messages.items c.reverse.new.self.items c.in_ok-messages.ensures c.reverse.ensures.items (rw c.deref.ensures.value at c.in_ok-recent.ensures) c.reverse-2.ensures.items
