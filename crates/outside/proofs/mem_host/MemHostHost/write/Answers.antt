use Rattle.std.proofs.Common.{rules, Ok, ap, refl, take}
use Rattle.outside.specs.Events.{put, write_failed}
use Rattle.outside.specs.Logs.{log_events}
use Rattle.outside.specs.Memory.{outside_of}
use Rattle.outside.proofs.Noting.{kept, told_call, write_told}
use Rattle.outside.proofs.mem_host.MemHostHost.write.Goals as goal

pub invariant_of-self : goal.invariant_of-self
invariant_of-self c =
    kept (log_events c.self.inside.log) (log_events c.take.result) (log_events c.note.result) c.put-event.result (put c.args.out (take c.in-Ok.count c.args.piece.now)) (outside_of c.self.inside.began) (outside_of c.self.inside.shown) (outside_of c.write.new.self) (ap log_events c.take.ensures.value) c.note.ensures c.put-event.ensures
    (c.in-Ok.ensures.view, (c.in-Ok.ensures.told (search rules)).0, c.in-Ok.ensures.script (search rules)) c.self.invariant

pub invariant_of-self-in-Err : goal.invariant_of-self-in-Err
invariant_of-self-in-Err c =
    kept (log_events c.self.inside.log) (log_events c.take-in-Err.result) (log_events c.note-in-Err.result) (Ok _) (write_failed c.args.out) (outside_of c.self.inside.began) (outside_of c.self.inside.shown) (outside_of c.write.new.self) (ap log_events c.take-in-Err.ensures.value) c.note-in-Err.ensures refl
    (c.in-Err.ensures.view, c.in-Err.ensures.told (search rules), c.in-Err.ensures.script (search rules)) c.self.invariant

pub returns-in-Ok-clause-past : goal.returns-in-Ok-clause-past
returns-in-Ok-clause-past c =
    write_told c.args.out c.args.piece.now _ _ _ (search rules)
    (told_call _ c.self.inside.began c.self.inside.shown c.write.new.self (log_events c.self.inside.log) (log_events c.take.result) (log_events c.note.result) c.put-event.result (put c.args.out (take c.in-Ok.count c.args.piece.now)) c.self.view_is (ap log_events c.take.ensures.value) c.note.ensures c.put-event.ensures c.in-Ok.ensures.exact)

pub returns-in-Err-clause-past : goal.returns-in-Err-clause-past
returns-in-Err-clause-past c =
    write_told c.args.out c.args.piece.now _ _ _ (search rules)
    (told_call _ c.self.inside.began c.self.inside.shown c.write.new.self (log_events c.self.inside.log) (log_events c.take-in-Err.result) (log_events c.note-in-Err.result) (Ok _) (write_failed c.args.out) c.self.view_is (ap log_events c.take-in-Err.ensures.value) c.note-in-Err.ensures refl c.in-Err.ensures.exact)
