use Rattle.serve_rooms.specs.Acts.{beside}
use Rattle.serve_rooms.specs.Answering.{AnswersOn}
use Rattle.serve_rooms.proofs.Doing.{Turned}
use Rattle.serve_rooms.proofs.answering.serve_link.Given as goal

abbrev pub invariant-loop-calls : goal.invariant-loop-calls
invariant-loop-calls g l =
    let h = g.H.Host in
    let k = g.K.Keeper in
    Turned (AnswersOn l.profile) (l.fn.store.server, 0) (beside (h.state l.fn.host) (k.state l.fn.store.keeper)) (beside (h.state l.host) (k.state l.store.keeper)) (l.store.server, l.calls)
