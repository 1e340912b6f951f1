use Rattle.std.proofs.Common.{◌≡◌}
use Rattle.std.specs.Prelude.{⊤}
use Rattle.box_server.specs.Servers.{dated_at}
use Rattle.box_server.specs.Keeping.{Keeps}
use Rattle.update_sessions.specs.Links.{UsesLink}
use Rattle.update_sessions.specs.inner.StoreSteps.{StoreSoFar}
use Rattle.update_sessions.proofs.storing.store_session.Given as goal

abbrev pub invariant-loop-calls : goal.invariant-loop-calls
invariant-loop-calls g l =
    let from = g.L.Source in
    let to = g.L.Sink in
    let keeper = g.K.Keeper in
    record {
      so_far : StoreSoFar l.profile (dated_at l.fn.store.server l.now) l.calls (from.state l.fn.link).left (to.state l.fn.link).written (from.state l.link).left (to.state l.link).written (keeper.state l.fn.store.keeper).entries
          (keeper.state l.store.keeper).entries l.store.server;
      kept : Keeps (keeper.state l.fn.store.keeper) (keeper.state l.store.keeper) ⊥ (λ _. ⊤);
      used : UsesLink (from.state l.fn.link) (from.state l.link) (to.state l.fn.link) (to.state l.link) ⊥;
      beside : g.L.Link.beside l.link ≡ g.L.Link.beside l.fn.link;
    }
