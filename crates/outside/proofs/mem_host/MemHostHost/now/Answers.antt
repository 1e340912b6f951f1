use Rattle.std.proofs.Common.{Ok, ap, refl}
use Rattle.outside.specs.Events.{told}
use Rattle.outside.specs.Logs.{log_events}
use Rattle.outside.specs.Memory.{outside_of}
use Rattle.outside.proofs.Noting.{kept}
use Rattle.outside.proofs.mem_host.MemHostHost.now.Goals as goal

pub invariant_of-self : goal.invariant_of-self
invariant_of-self c =
    kept (log_events c.self.inside.log) (log_events c.take.result) (log_events c.note.result) (Ok _) (told c.now-moment.result) (outside_of c.self.inside.began) (outside_of c.self.inside.shown) (outside_of c.now-moment.new.self) (ap log_events c.take.ensures.value) c.note.ensures refl
    (c.now-moment.ensures.view, c.now-moment.ensures.script) c.self.invariant
