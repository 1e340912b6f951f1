use Rattle.std.proofs.Common.{arith}
use Rattle.std.proofs.lemmas.Result.{err_from_is_err_and}
use Rattle.session_rooms.proofs.States.{none_given, none_watched}
use Rattle.session_rooms.proofs.client.watching.Goals as goal

pub returns-in_err-client-clause-makes : goal.returns-in_err-client-clause-makes
returns-in_err-client-clause-makes c =
    let q = err_from_is_err_and c.from_residual.result c.from_residual.ensures.1 in
    rw (q.1, q.2) (none_given c.args.profile.now c.args.channels.now c.args.bytes.now c.in_err-client.field-0.0 c.in_err-client.ensures.gives)

pub returns-in_err-watch_all-clause-makes : goal.returns-in_err-watch_all-clause-makes
returns-in_err-watch_all-clause-makes c =
    let q = err_from_is_err_and c.from_residual-in_err-watch_all.result c.from_residual-in_err-watch_all.ensures.1 in
    rw (q.1, q.2) (none_watched c.args.profile.now c.args.channels.now c.args.bytes.now c.in_ok-client.client c.watch_all.new.client c.in_err-watch_all.field-0.0 c.in_ok-client.ensures.gives c.in_err-watch_all.ensures.watches)

pub returns-clause-makes : goal.returns-clause-makes
returns-clause-makes c = (c.in_ok-client.client, c.in_ok-client.ensures.gives, c.in_ok-watch_all.ensures.watches)

pub returns-clause-next : goal.returns-clause-next
returns-clause-next c = omega (arith, c.watch_all.ensures.next, c.in_ok-client.ensures.next)
