use Rattle.std.proofs.Common.{ap}
use Rattle.outside.specs.Events.{opened}
use Rattle.outside.specs.Logs.{log_events}
use Rattle.outside.specs.Memory.{outside_of}
use Rattle.outside.proofs.Noting.{kept, opened_so}
use Rattle.outside.proofs.mem_host.MemHostHost.open_slot.Goals as goal

pub invariant_of-self : goal.invariant_of-self
invariant_of-self c =
    kept (log_events c.self.inside.log) (log_events c.take.result) (log_events c.note.result) c.opened-event.result (opened c.args.slot c.args.name.now c.is_ok.result) (outside_of c.self.inside.began) (outside_of c.self.inside.shown) (outside_of c.open_slot-answer.new.self) (ap log_events c.take.ensures.value) c.note.ensures c.opened-event.ensures
    (opened_so c.self.inside.shown c.open_slot-answer.new.self _ c.args.slot c.args.name.now c.open_slot-answer.result c.is_ok.result c.is_ok.ensures.value c.open_slot-answer.ensures.view c.open_slot-answer.ensures.told c.open_slot-answer.ensures.script) c.self.invariant
