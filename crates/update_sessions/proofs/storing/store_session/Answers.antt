use Rattle.std.proofs.Common.{◌∙◌, Bool, Ok, ap, refl, rules, subst}
use Rattle.std.specs.Prelude.{⊤}
use Rattle.box_server.proofs.Added.{keeps_as}
use Rattle.box_server.specs.Servers.{dated_at}
use Rattle.update_sessions.specs.declared.fault.TheConstants.{MAX_FRAMES}
use Rattle.update_sessions.specs.Exchanges.{MaySend}
use Rattle.update_sessions.specs.Kept.{RoomFor, ended, kept_in}
use Rattle.update_sessions.specs.Serving.{server_side}
use Rattle.update_sessions.specs.inner.StoreSteps.{StoresNext}
use Rattle.update_sessions.proofs.KeepsRoom.{keeps_more, keeps_next, keeps_same}
use Rattle.update_sessions.proofs.LinkUses.{uses_as, uses_none, uses_then}
use Rattle.update_sessions.proofs.ServerSteps.{so_far_first, so_far_next, stores_ended}
use Rattle.update_sessions.proofs.Stepping.{never_as, never_then}
use Rattle.update_sessions.proofs.Untaken.{ends_stores}
use Rattle.update_sessions.proofs.storing.store_session.Goals as goal

pub returns-in-Err : goal.returns-in-Err
returns-in-Err g c =
    let from = g.L.Source.state in
    let to = g.L.Sink.state in
    let keeper = g.K.Keeper.state in
    let p = c.args.profile.now in
    let s = dated_at c.args.store.now.server c.args.now in
    let u = c.loop-calls.store.server in
    let n = c.loop-calls.calls in
    let so = c.loop-calls.invariant.so_far in
    let few = c.loop-calls-test.true in
    let a = from c.args.link.now in
    let b = from c.loop-calls.link in
    let d = from c.serve_next.new.link in
    let x = to c.args.link.now in
    let y = to c.loop-calls.link in
    let z = to c.serve_next.new.link in
    let first = keeper c.args.store.now.keeper in
    let mid = keeper c.loop-calls.store.keeper in
    let last = keeper c.serve_next.new.store.keeper in
    let side = server_side p in
    record {
      stores = ends_stores p s u n a.left x.written b.left y.written first.entries mid.entries last.entries so few d.left z.written c.serve_next.new.store.server c.in-Err.end c.in-Err.ensures.stores;
      kept = keeps_as first last _ _ _ _ (λ es fits. fits) (λ e. cc) (keeps_next p MAX_FRAMES s u n a.left x.written b.left y.written first mid last _ so few c.loop-calls.invariant.kept c.in-Err.ensures.kept);
      used = uses_then a b d x y z ⊥ _ c.loop-calls.invariant.used (uses_as b d y z _ _ c.in-Err.ensures.used (λ e. cc));
      beside = c.serve_next.ensures.beside ∙ c.loop-calls.invariant.beside;
      never = never_as a x (MaySend side s) _ _ (never_then side MAX_FRAMES s u n a b x y _ _ few (so.calls, so.count, so.link) c.loop-calls.invariant.used c.in-Err.ensures.never) (λ e. cc);
    }

pub returns-then-not-more : goal.returns-then-not-more
returns-then-not-more g c =
    let from = g.L.Source.state in
    let to = g.L.Sink.state in
    let keeper = g.K.Keeper.state in
    let p = c.args.profile.now in
    let s = dated_at c.args.store.now.server c.args.now in
    let u = c.loop-calls.store.server in
    let n = c.loop-calls.calls in
    let so = c.loop-calls.invariant.so_far in
    let few = c.loop-calls-test.true in
    let a = from c.args.link.now in
    let b = from c.loop-calls.link in
    let d = from c.serve_next.new.link in
    let x = to c.args.link.now in
    let y = to c.loop-calls.link in
    let z = to c.serve_next.new.link in
    let first = keeper c.args.store.now.keeper in
    let mid = keeper c.loop-calls.store.keeper in
    let last = keeper c.serve_next.new.store.keeper in
    let t = c.serve_next.new.store.server in
    record {
      stores = stores_ended p s u n a.left x.written b.left y.written first.entries mid.entries so few d.left z.written last.entries t (subst (λ (v : Bool). StoresNext p u b.left y.written d.left z.written mid.entries last.entries (ended t (Ok v))) (search rules) c.in-Ok.ensures.stores);
      kept = keeps_as first last _ _ _ _ (λ es fits. fits) (λ e. absurd cc) (keeps_next p MAX_FRAMES s u n a.left x.written b.left y.written first mid last _ so few c.loop-calls.invariant.kept c.in-Ok.ensures.kept);
      used = uses_then a b d x y z ⊥ _ c.loop-calls.invariant.used (uses_as b d y z _ _ c.in-Ok.ensures.used (λ e. absurd cc));
      beside = c.serve_next.ensures.beside ∙ c.loop-calls.invariant.beside;
      never = λ bytes before told also sound fits failed. absurd cc;
    }

pub loop-calls-preserved : goal.loop-calls-preserved
loop-calls-preserved g c =
    let from = g.L.Source.state in
    let to = g.L.Sink.state in
    let keeper = g.K.Keeper.state in
    let p = c.args.profile.now in
    let s = dated_at c.args.store.now.server c.args.now in
    let u = c.loop-calls.store.server in
    let n = c.loop-calls.calls in
    let so = c.loop-calls.invariant.so_far in
    let a = from c.args.link.now in
    let b = from c.loop-calls.link in
    let d = from c.serve_next.new.link in
    let x = to c.args.link.now in
    let y = to c.loop-calls.link in
    let z = to c.serve_next.new.link in
    let first = keeper c.args.store.now.keeper in
    let mid = keeper c.loop-calls.store.keeper in
    let last = keeper c.serve_next.new.store.keeper in
    let t = c.serve_next.new.store.server in
    record {
      so_far = so_far_next p s u n a.left x.written b.left y.written first.entries mid.entries so t d.left z.written last.entries (subst (λ (v : Bool). StoresNext p u b.left y.written d.left z.written mid.entries last.entries (ended t (Ok v))) (search rules) c.in-Ok.ensures.stores);
      kept = keeps_more first mid last (kept_in s so.calls) _ (RoomFor p 1 u b.left y.written mid.room) so.appended c.loop-calls.invariant.kept c.in-Ok.ensures.kept;
      used = uses_then a b d x y z ⊥ ⊥ c.loop-calls.invariant.used (uses_as b d y z _ ⊥ c.in-Ok.ensures.used (λ e. absurd e));
      beside = ◌∙◌ {a = g.L.Link.beside c.serve_next.new.link} c.serve_next.ensures.beside c.loop-calls.invariant.beside;
    }

pub loop-calls-init : goal.loop-calls-init
loop-calls-init g c =
    let from = g.L.Source.state in
    let to = g.L.Sink.state in
    let keeper = g.K.Keeper.state in
    let p = c.args.profile.now in
    let s = dated_at c.args.store.now.server c.args.now in
    let a = from c.args.link.now in
    let x = to c.args.link.now in
    let first = keeper c.args.store.now.keeper in
    record {
      so_far = so_far_first p s c.set_date.new.self.server a.left x.written first.entries (keeper c.set_date.new.self.keeper).entries c.set_date.ensures.server (ap (λ k. (keeper k).entries) c.set_date.ensures.keeper);
      kept = keeps_same keeper c.args.store.now.keeper c.set_date.new.self.keeper (λ _. ⊤) c.set_date.ensures.keeper;
      used = uses_none a x ⊥ (λ f. f);
      beside = refl;
    }
