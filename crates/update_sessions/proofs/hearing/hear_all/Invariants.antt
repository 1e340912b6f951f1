use Rattle.std.proofs.Common.{◌≡◌, ◌≤◌, ◌+◌, ◌*◌}
use Rattle.box_events.specs.declared.limits.TheConstants.{MAX_ASKS}
use Rattle.update_sessions.specs.Hearing.{client_side}
use Rattle.update_sessions.specs.Links.{UsesLink}
use Rattle.update_sessions.specs.inner.Steps.{SoMany}
use Rattle.update_sessions.proofs.hearing.hear_all.Given as goal

abbrev pub invariant-loop-frames : goal.invariant-loop-frames
invariant-loop-frames g l =
    let from = g.L.Source in
    let to = g.L.Sink in
    record {
      so_many : SoMany (client_side l.profile) l.fn.client l.frames (from.state l.fn.link).left (to.state l.fn.link).written (from.state l.link).left (to.state l.link).written l.client;
      used : UsesLink (from.state l.fn.link) (from.state l.link) (to.state l.fn.link) (to.state l.link) ⊥;
      beside : g.L.Link.beside l.link ≡ g.L.Link.beside l.fn.link;
      next : l.client.next ≤ 2000000000 + MAX_ASKS * (1 + l.frames);
    }
