use Rattle.std.proofs.Common.{sym, subst}
use Rattle.update_world.specs.inner.Reading.{HasCall}
use Rattle.update_world.proofs.HeldMessages.{has_call}
use Rattle.update_world.proofs.reading.asked_by.Goals as goal

pub sent_call-requires-clause-call : goal.sent_call-requires-clause-call
sent_call-requires-clause-call c =
    subst (HasCall c.args.profile.now) (sym c.as_slice.ensures.value) (has_call c.args.profile.now c.args.pool.now c.args.packet c.in-Server.from c.in-Some.sent.now c.requires.messages c.in-Some.ensures c.in-Server.is)
