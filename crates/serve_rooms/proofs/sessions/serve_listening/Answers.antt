use Rattle.std.proofs.Common.{Some, None, arith}
use Rattle.std.proofs.lemmas.Result.{err_from_is_err_and}
use Rattle.serve_rooms.specs.Sessions.{ServesOn}
use Rattle.serve_rooms.specs.Telling.{new_tally}
use Rattle.serve_rooms.proofs.Connections.{all_served, last_one, one_more}
use Rattle.serve_rooms.proofs.Doing.{turned_none}
use Rattle.serve_rooms.proofs.sessions.serve_listening.Goals as goal

pub loop-number-init : goal.loop-number-init
loop-number-init g c = record { reached = turned_none (ServesOn c.args.profile.now c.args.sessions) (record { number = 0; server = c.args.store.now.server; tally = new_tally }) _ }

pub loop-number-preserved : goal.loop-number-preserved
loop-number-preserved g c = record { reached = one_more c.args.profile.now c.args.sessions _ _ _ _ c.loop-number.invariant.reached _ c.in-Ok.so_far _ c.loop-number-test.true (rw c.in-Ok.is at c.in_ok-so_far.ensures) }

pub returns-in_err-so_far : goal.returns-in_err-so_far
returns-in_err-so_far g c =
    let q = err_from_is_err_and c.from_residual.result c.from_residual.ensures.1 in
    rw q.1 (last_one c.args.profile.now c.args.sessions _ _ _ _ c.loop-number.invariant.reached None _ c.loop-number-test.true c.in_err-so_far.ensures)

pub returns-in-Err : goal.returns-in-Err
returns-in-Err g c = last_one c.args.profile.now c.args.sessions _ _ _ _ c.loop-number.invariant.reached (Some c.in-Err.status) _ c.loop-number-test.true (rw c.in-Err.is at c.in_ok-so_far.ensures)

pub returns : goal.returns
returns g c = all_served c.args.profile.now c.args.sessions _ _ _ _ c.loop-number.invariant.reached (omega (arith, c.loop-number-test.false))
