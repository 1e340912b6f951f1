use Rattle.std.proofs.Common.{ap}
use Rattle.outside.specs.Events.{listened}
use Rattle.outside.specs.Logs.{log_events}
use Rattle.outside.specs.Memory.{outside_of}
use Rattle.outside.proofs.Noting.{kept, listened_so}
use Rattle.outside.proofs.mem_host.MemHostHost.listen.Goals as goal

pub invariant_of-self : goal.invariant_of-self
invariant_of-self c =
    kept (log_events c.self.inside.log) (log_events c.take.result) (log_events c.note.result) c.listened-event.result (listened c.args.address.now c.is_ok.result) (outside_of c.self.inside.began) (outside_of c.self.inside.shown) (outside_of c.listen-answer.new.self) (ap log_events c.take.ensures.value) c.note.ensures c.listened-event.ensures
    (listened_so c.self.inside.shown c.listen-answer.new.self _ c.args.address.now c.listen-answer.result c.is_ok.result c.is_ok.ensures.value c.listen-answer.ensures.view c.listen-answer.ensures.told c.listen-answer.ensures.script) c.self.invariant
