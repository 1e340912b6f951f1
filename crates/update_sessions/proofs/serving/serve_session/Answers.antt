use Rattle.std.proofs.Common.{ℕ, None, Ok, Err, ◌∙◌}
use Rattle.box_server.specs.Servers.{dated_at}
use Rattle.update_sessions.specs.declared.fault.SessionFault.TheVariants.{LinkFault}
use Rattle.update_sessions.specs.declared.storing.StoreSession.TheVariants as store
use Rattle.update_sessions.specs.Exchanges.{MaySend}
use Rattle.update_sessions.specs.Kept.{StoreEnd, Stores}
use Rattle.update_sessions.specs.Serving.{server_side}
use Rattle.update_sessions.proofs.ServerSteps.{ended_by, link_failed, never_of, served_of}
use Rattle.update_sessions.proofs.Stepping.{never_as}
use Rattle.update_sessions.proofs.serving.serve_session.Goals as goal

pub returns-in-Ok-clause-serves : goal.returns-in-Ok-clause-serves
returns-in-Ok-clause-serves g c =
    let from = g.L.Source.state in
    let to = g.L.Sink.state in
    served_of c.args.profile.now c.args.server.now c.over-store.result.server c.store_session-end.new.store.server c.into_server.result c.args.now (from c.args.link.now).left (to c.args.link.now).written (to c.store_session-end.new.link).written _ _ (Ok c.in-Ok.calls)
    (c.over-store.ensures ∙ c.replace.ensures.value) c.into_server.ensures (rw c.in-Ok.is at c.store_session-end.ensures.stores)

pub returns-in-Err-Session-clause-serves : goal.returns-in-Err-Session-clause-serves
returns-in-Err-Session-clause-serves g c =
    let p = c.args.profile.now in
    let d = dated_at c.over-store.result.server c.args.now in
    let t = c.store_session-end.new.store.server in
    let left = (g.L.Source.state c.args.link.now).left in
    let old = (g.L.Sink.state c.args.link.now).written in
    let new = (g.L.Sink.state c.store_session-end.new.link).written in
    let stores = ended_by (λ (x : StoreEnd ℕ). Stores p d left old new None None x) t c.store_session-end.result c.in-Err-Session.field-0 (store.Session c.in-Err-Session.fault) c.in-Err-Session.is (rw c.in-Err-Session.is at c.in-Err-Session.field-0-is) c.store_session-end.ensures.stores in
    served_of p c.args.server.now c.over-store.result.server t c.into_server.result c.args.now left old new None None (Err c.in-Err-Session.fault) (c.over-store.ensures ∙ c.replace.ensures.value) c.into_server.ensures stores

pub returns-in-Err-Session-clause-never : goal.returns-in-Err-Session-clause-never
returns-in-Err-Session-clause-never g c =
    let p = c.args.profile.now in
    let s = c.args.server.now in
    let a = g.L.Source.state c.args.link.now in
    let x = g.L.Sink.state c.args.link.now in
    never_as a x (MaySend (server_side p) (dated_at s c.args.now)) _ _ (never_of p s c.over-store.result.server c.args.now a x _ (c.over-store.ensures ∙ c.replace.ensures.value) c.store_session-end.ensures.never)
    (λ e. link_failed c.store_session-end.result c.in-Err-Session.field-0 c.in-Err-Session.fault c.in-Err-Session.is (rw c.in-Err-Session.is at c.in-Err-Session.field-0-is) cc)

pub returns-in-Err-Memory-clause-serves : goal.returns-in-Err-Memory-clause-serves
returns-in-Err-Memory-clause-serves g c =
    let p = c.args.profile.now in
    let d = dated_at c.over-store.result.server c.args.now in
    let t = c.store_session-end.new.store.server in
    let left = (g.L.Source.state c.args.link.now).left in
    let old = (g.L.Sink.state c.args.link.now).written in
    let new = (g.L.Sink.state c.store_session-end.new.link).written in
    let stores = ended_by (λ (x : StoreEnd ℕ). Stores p d left old new None None x) t c.store_session-end.result c.in-Err-Memory.field-0 store.Memory c.in-Err-Memory.is (rw c.in-Err-Memory.is at c.in-Err-Memory.field-0-is) c.store_session-end.ensures.stores in
    served_of p c.args.server.now c.over-store.result.server t c.into_server.result c.args.now left old new None None (Err LinkFault) (c.over-store.ensures ∙ c.replace.ensures.value) c.into_server.ensures stores
