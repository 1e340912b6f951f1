use Rattle.std.proofs.Common.{ap}
use Rattle.outside.specs.Events.{connected}
use Rattle.outside.specs.Logs.{log_events}
use Rattle.outside.specs.Memory.{outside_of}
use Rattle.outside.proofs.Noting.{kept, connected_so}
use Rattle.outside.proofs.mem_host.MemHostHost.connect.Goals as goal

pub invariant_of-self : goal.invariant_of-self
invariant_of-self c =
    kept (log_events c.self.inside.log) (log_events c.take.result) (log_events c.note.result) c.connected-event.result (connected c.args.address.now c.is_ok.result) (outside_of c.self.inside.began) (outside_of c.self.inside.shown) (outside_of c.connect-answer.new.self) (ap log_events c.take.ensures.value) c.note.ensures c.connected-event.ensures
    (connected_so c.self.inside.shown c.connect-answer.new.self _ c.args.address.now c.connect-answer.result c.is_ok.result c.is_ok.ensures.value c.connect-answer.ensures.view c.connect-answer.ensures.told c.connect-answer.ensures.script) c.self.invariant
