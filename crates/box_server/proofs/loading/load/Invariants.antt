use Rattle.std.specs.Prelude.{⊤}
use Rattle.std.proofs.Common.{◌≡◌, ◌-◌, ◌≤◌, IfSome}
use Rattle.box_server.specs.Keeping.{Keeps}
use Rattle.box_server.specs.inner.Loading.{Loaded}
use Rattle.box_server.proofs.loading.load.Given as goal

abbrev pub invariant-loop-n : goal.invariant-loop-n
invariant-loop-n g l =
    let s = g.K.Keeper in
    record {
      few : l.n ≤ l.count;
      entries : (s.state l.keeper).entries ≡ (s.state l.fn.keeper).entries;
      loaded : IfSome (s.state l.fn.keeper).entries (λ es. Loaded es l.count l.n l.server);
      used : Keeps (s.state l.fn.keeper) (s.state l.keeper) ⊥ (λ _. ⊤);
    }

abbrev pub decreases-loop-n : goal.decreases-loop-n
decreases-loop-n g l = l.count - l.n
