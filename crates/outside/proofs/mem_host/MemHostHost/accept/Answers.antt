use Rattle.std.proofs.Common.{Ok, ap, refl}
use Rattle.outside.specs.Events.{accepted}
use Rattle.outside.specs.Logs.{log_events}
use Rattle.outside.specs.Memory.{outside_of}
use Rattle.outside.proofs.Noting.{kept, accepted_so}
use Rattle.outside.proofs.mem_host.MemHostHost.accept.Goals as goal

pub invariant_of-self : goal.invariant_of-self
invariant_of-self c =
    kept (log_events c.self.inside.log) (log_events c.take.result) (log_events c.note.result) (Ok _) (accepted c.is_ok.result) (outside_of c.self.inside.began) (outside_of c.self.inside.shown) (outside_of c.accept-answer.new.self) (ap log_events c.take.ensures.value) c.note.ensures refl
    (accepted_so c.self.inside.shown c.accept-answer.new.self _ c.accept-answer.result c.is_ok.result c.is_ok.ensures.value c.accept-answer.ensures.view c.accept-answer.ensures.told c.accept-answer.ensures.script) c.self.invariant
