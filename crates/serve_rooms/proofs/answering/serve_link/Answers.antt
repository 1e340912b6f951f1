use Rattle.std.proofs.Common.{arith, sym, ◌∙◌}
use Rattle.serve_rooms.specs.Answering.{AnswersOn}
use Rattle.serve_rooms.proofs.Doing.{turned_none}
use Rattle.serve_rooms.proofs.AnsweredAll.{one_more, session_over, session_stopped, too_many}
use Rattle.serve_rooms.proofs.answering.serve_link.Goals as goal

pub loop-calls-init : goal.loop-calls-init
loop-calls-init g c = turned_none (AnswersOn c.args.profile.now) (c.args.store.now.server, 0) _

pub loop-calls-preserved : goal.loop-calls-preserved
loop-calls-preserved g c =
    one_more c.args.profile.now (c.args.store.now.server, 0) c.loop-calls.store.server c.loop-calls.calls _ _ _ c.loop-calls.invariant c.loop-calls-test.true c.answer_next.new.store.server c.in-Ok.outcome (sym c.end_by.ensures ∙ c.in_default.is)
    c.in-Ok.ensures

pub returns-in-Err : goal.returns-in-Err
returns-in-Err g c = session_stopped c.args.profile.now (c.args.store.now.server, 0) c.loop-calls.store.server c.loop-calls.calls _ _ _ c.loop-calls.invariant c.loop-calls-test.true c.answer_next.new.store.server c.in-Err.fault c.in-Err.ensures

pub returns-in-Some : goal.returns-in-Some
returns-in-Some g c =
    session_over c.args.profile.now (c.args.store.now.server, 0) c.loop-calls.store.server c.loop-calls.calls _ _ _ c.loop-calls.invariant c.loop-calls-test.true c.answer_next.new.store.server c.in-Ok.outcome c.in-Some.end (sym c.end_by.ensures ∙ c.in-Some.is)
    c.in-Ok.ensures

pub returns : goal.returns
returns g c = too_many c.args.profile.now (c.args.store.now.server, 0) c.loop-calls.store.server c.loop-calls.calls _ _ c.loop-calls.invariant (omega (arith, c.loop-calls-test.false))
