use Rattle.std.proofs.Common.{◌≤◌, ◌+◌, ◌*◌}
use Rattle.box_events.specs.declared.limits.TheConstants.{MAX_ASKS}
use Rattle.outside.specs.Steps.{Grows, Reaches}
use Rattle.session_rooms.specs.Conversing.{HearsOn}
use Rattle.session_rooms.proofs.conversing.hear_all.Given as goal

abbrev pub invariant-loop-frames : goal.invariant-loop-frames
invariant-loop-frames g l =
    let s = g.H.Host in
    record {
      next : l.client.next ≤ 2000000000 + MAX_ASKS * (1 + l.frames);
      reached : Grows (s.state l.fn.host) (s.state l.host) (λ t. Reaches (HearsOn l.profile) (l.fn.client, 0) t (l.client, l.frames));
    }
