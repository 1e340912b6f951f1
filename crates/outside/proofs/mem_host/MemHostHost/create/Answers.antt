use Rattle.std.proofs.Common.{ap}
use Rattle.outside.specs.Events.{created}
use Rattle.outside.specs.Logs.{log_events}
use Rattle.outside.specs.Memory.{outside_of}
use Rattle.outside.proofs.Noting.{kept, created_so}
use Rattle.outside.proofs.mem_host.MemHostHost.create.Goals as goal

pub invariant_of-self : goal.invariant_of-self
invariant_of-self c =
    kept (log_events c.self.inside.log) (log_events c.take.result) (log_events c.note.result) c.created-event.result (created c.args.out c.args.name.now c.is_ok.result) (outside_of c.self.inside.began) (outside_of c.self.inside.shown) (outside_of c.create-answer.new.self) (ap log_events c.take.ensures.value) c.note.ensures c.created-event.ensures
    (created_so c.self.inside.shown c.create-answer.new.self _ c.args.out c.args.name.now c.create-answer.result c.is_ok.result c.is_ok.ensures.value c.create-answer.ensures.view c.create-answer.ensures.told c.create-answer.ensures.script) c.self.invariant
