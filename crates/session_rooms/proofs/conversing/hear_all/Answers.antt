use Rattle.std.proofs.Common.{arith, rules}
use Rattle.std.proofs.lemmas.Result.{err_from_is_err_and}
use Rattle.outside.proofs.Growing.{reached_none}
use Rattle.session_rooms.specs.Conversing.{HearsOn}
use Rattle.session_rooms.proofs.Conversations.{asks_no_more, asks_too_long, last_turn, one_more}
use Rattle.session_rooms.proofs.conversing.hear_all.Goals as goal

pub loop-frames-init : goal.loop-frames-init
loop-frames-init g c = record { next = omega (arith, c.requires.next); reached = reached_none (HearsOn c.args.profile.now) (c.args.client.now, 0) _ }

pub loop-frames-preserved : goal.loop-frames-preserved
loop-frames-preserved g c = record {
  next = omega (arith, c.hear_next.ensures.next, c.loop-frames.invariant.next);
  reached = one_more c.args.profile.now (c.args.client.now, 0) c.loop-frames.client c.loop-frames.frames _ _ _ c.loop-frames.invariant.reached c.hear_next.new.client (search rules) c.loop-frames-test.true c.in_ok-hear_next.ensures.hears;
}

pub returns-then-not-asking : goal.returns-then-not-asking
returns-then-not-asking g c = asks_no_more c.args.profile.now (c.args.client.now, 0) c.loop-frames.client c.loop-frames.frames _ _ c.loop-frames.invariant.reached (search rules)

pub returns-in_err-hear_next : goal.returns-in_err-hear_next
returns-in_err-hear_next g c =
    let q = err_from_is_err_and c.from_residual.result c.from_residual.ensures.1 in
    rw (q.1, q.2) (last_turn c.args.profile.now (c.args.client.now, 0) c.loop-frames.client c.loop-frames.frames _ _ _ c.loop-frames.invariant.reached c.hear_next.new.client c.in_err-hear_next.field-0.0 (search rules) c.loop-frames-test.true c.in_err-hear_next.ensures.hears)

pub returns-then-asking : goal.returns-then-asking
returns-then-asking g c = asks_too_long c.args.profile.now (c.args.client.now, 0) c.loop-frames.client c.loop-frames.frames _ _ c.loop-frames.invariant.reached (search rules) (omega (arith, c.loop-frames-test.false))

pub returns : goal.returns
returns g c = asks_no_more c.args.profile.now (c.args.client.now, 0) c.loop-frames.client c.loop-frames.frames _ _ c.loop-frames.invariant.reached (search rules)
