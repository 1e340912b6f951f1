use Rattle.box_events.proofs.Copying.{event_by}
use Rattle.box_events.proofs.event_box.EventBox.event_at.Goals as goal

pub returns : goal.returns
returns c = event_by c.args.self.now c.args.at c.in_ok-run_at.field-0.now c.first.result c.first.ensures.value c.in_ok-run_at.ensures
