use Rattle.std.proofs.Common.{rules, Ok, ap, refl, take}
use Rattle.outside.specs.Events.{given_event, read_failed}
use Rattle.outside.specs.Logs.{log_events}
use Rattle.outside.specs.Memory.{outside_of}
use Rattle.outside.proofs.Noting.{gave_so, kept, read_told, told_call, uncounted}
use Rattle.outside.proofs.mem_host.MemHostHost.read.Goals as goal

pub invariant_of-self : goal.invariant_of-self
invariant_of-self c =
    kept (log_events c.self.inside.log) (log_events c.take.result) (log_events c.note.result) c.given-event.result (given_event c.args.slot (take c.in-Ok.count c.read.new.into)) (outside_of c.self.inside.began) (outside_of c.self.inside.shown) (outside_of c.read.new.self) (ap log_events c.take.ensures.value) c.note.ensures c.given-event.ensures
    (gave_so c.self.inside.shown c.read.new.self c.args.slot c.read.new.into c.in-Ok.count (search rules) c.in-Ok.ensures.bound.0 c.in-Ok.ensures.view (c.in-Ok.ensures.told (search rules)).0 (c.in-Ok.ensures.script (search rules))) c.self.invariant

pub invariant_of-self-in-Err : goal.invariant_of-self-in-Err
invariant_of-self-in-Err c =
    kept (log_events c.self.inside.log) (log_events c.take-in-Err.result) (log_events c.note-in-Err.result) (Ok _) (read_failed c.args.slot) (outside_of c.self.inside.began) (outside_of c.self.inside.shown) (outside_of c.read.new.self) (ap log_events c.take-in-Err.ensures.value) c.note-in-Err.ensures refl
    (c.in-Err.ensures.view, c.in-Err.ensures.told (search rules), c.in-Err.ensures.script (search rules)) c.self.invariant

pub returns-in-Ok-clause-past : goal.returns-in-Ok-clause-past
returns-in-Ok-clause-past c =
    read_told c.args.slot c.read.new.into _ _ _ (search rules)
    (told_call _ c.self.inside.began c.self.inside.shown c.read.new.self (log_events c.self.inside.log) (log_events c.take.result) (log_events c.note.result) c.given-event.result (given_event c.args.slot (take c.in-Ok.count c.read.new.into)) c.self.view_is (ap log_events c.take.ensures.value) c.note.ensures c.given-event.ensures (uncounted c.args.slot _ _ _ c.in-Ok.ensures.exact))
