use Rattle.serve_rooms.specs.Acts.{beside}
use Rattle.serve_rooms.specs.Sessions.{ServesOn}
use Rattle.serve_rooms.specs.Telling.{new_tally}
use Rattle.serve_rooms.proofs.Doing.{Turned}
use Rattle.serve_rooms.proofs.sessions.serve_listening.Given as goal

abbrev pub invariant-loop-number : goal.invariant-loop-number
invariant-loop-number g l =
    let h = g.H.Host in
    let k = g.K.Keeper in
    record {
      reached : Turned (ServesOn l.profile l.sessions) (record { number = 0; server = l.fn.store.server; tally = new_tally }) (beside (h.state l.fn.host) (k.state l.fn.store.keeper)) (beside (h.state l.host) (k.state l.store.keeper))
          (record { number = l.number; server = l.store.server; tally = l.tally });
    }
