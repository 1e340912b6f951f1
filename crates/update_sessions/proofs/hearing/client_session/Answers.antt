use Rattle.std.proofs.Common.{◌≡◌, Err, ap, refl, sym, ◌∙◌, subst, List, ℕ, length}
use Rattle.std.specs.Prelude.{IsErr}
use Rattle.std.proofs.lemmas.Result.{err_from_is_err_and}
use Rattle.tl_base.specs.Using.{Wrote}
use Rattle.box_events.specs.declared.replies.Frame.{Frame}
use Rattle.box_client.specs.Asking.{ticks}
use Rattle.box_client.specs.States.{ClientState}
use Rattle.tl_base.specs.declared.fault.Fault.TheVariants.{Refused}
use Rattle.update_sessions.specs.declared.fault.SessionFault.TheVariants.{LinkFault}
use Rattle.update_sessions.specs.Faults.{end_as}
use Rattle.update_sessions.specs.Exchanges.{MaySend}
use Rattle.update_sessions.specs.Heard.{HearsOn, MayAsk}
use Rattle.update_sessions.specs.Hearing.{client_side}
use Rattle.update_sessions.specs.Links.{LinkNeverFails, OverLink}
use Rattle.update_sessions.specs.Packed.{Packed, SpellsCall}
use Rattle.update_sessions.proofs.HonestFrames.{begins, begins_cut, begins_kept, begins_never, first_never}
use Rattle.update_sessions.proofs.LinkUses.{IsOne}
use Rattle.update_sessions.proofs.Stepping.{never_as}
use Rattle.update_sessions.proofs.hearing.client_session.Goals as goal

pub returns-in_err-put_asks-clause-hears : goal.returns-in_err-put_asks-clause-hears
returns-in_err-put_asks-clause-hears g c =
    let q = err_from_is_err_and c.from_residual.result c.from_residual.ensures.1 in
    let is = c.put_asks.ensures.ticks ∙ ap (λ (x : ClientState). (ticks x).client) c.wake.ensures.step in
    rw (q.1, q.2) (begins_kept c.args.profile.now c.args.client.now c.put_asks.new.client (g.L.Source.state c.args.link.now).left (g.L.Sink.state c.args.link.now).written is)

pub returns-in-Err-clause-hears : goal.returns-in-Err-clause-hears
returns-in-Err-clause-hears g c =
    let p = c.args.profile.now in
    let out = c.put_asks.new.out in
    let is = c.put_asks.ensures.ticks ∙ ap (λ (x : ClientState). (ticks x).client) c.wake.ensures.step in
    let packed = subst (λ (x : ClientState). Packed (SpellsCall p) (ticks x).asks out) c.wake.ensures.step c.in_ok-put_asks.ensures.asks in
    begins_cut p c.args.client.now c.put_asks.new.client (g.L.Source.state c.args.link.now).left (g.L.Sink.state c.args.link.now).written (g.L.Sink.state c.write_all.new.to).written out is packed (rw c.as_slice.ensures.value at c.in-Err.ensures.bytes)

pub returns-in-Err-clause-never : goal.returns-in-Err-clause-never
returns-in-Err-clause-never g c =
    let p = c.args.profile.now in
    let out = c.put_asks.new.out in
    let a = g.L.Source.state c.args.link.now in
    let x = g.L.Sink.state c.args.link.now in
    let y = g.L.Sink.state c.write_all.new.to in
    let one : IsOne a x = record { faults = g.met.L.Link.one_count c.args.link.now; sound = g.met.L.Link.one_truth c.args.link.now } in
    let packed = subst (λ (k : ClientState). Packed (SpellsCall p) (ticks k).asks out) c.wake.ensures.step c.in_ok-put_asks.ensures.asks in
    let wrote = subst (λ (l : List ℕ). Wrote x y (length l) (IsErr c.write_all.result)) c.as_slice.ensures.value c.write_all.ensures.used in
    never_as a x (MayAsk p c.args.client.now) (IsErr c.write_all.result) _ (first_never p a x y c.args.client.now out (IsErr c.write_all.result) one packed wrote) (λ e. rw c.in-Err.is refl)

pub returns-in-Ok-clause-hears : goal.returns-in-Ok-clause-hears
returns-in-Ok-clause-hears g c =
    let p = c.args.profile.now in
    let out = c.put_asks.new.out in
    let d = c.hear_all.new.client in
    let is = c.put_asks.ensures.ticks ∙ ap (λ (x : ClientState). (ticks x).client) c.wake.ensures.step in
    let packed = subst (λ (x : ClientState). Packed (SpellsCall p) (ticks x).asks out) c.wake.ensures.step c.in_ok-put_asks.ensures.asks in
    let left = g.met.L.Link.writing_keeps_left c.args.link.now c.write_all.new.to (sym c.write_all.ensures.used.kept) in
    let heard = subst (λ (x : ClientState). OverLink (g.L.Source.state c.write_all.new.to).left (g.L.Sink.state c.write_all.new.to).written (g.L.Sink.state c.hear_all.new.link).written (λ bytes more. (frames : List Frame) × (last : List Frame) × HearsOn p x bytes more d (end_as c.hear_all.result) frames last))
    is c.hear_all.ensures.hears in
    begins p c.args.client.now d (g.L.Source.state c.args.link.now).left (g.L.Sink.state c.args.link.now).written (g.L.Source.state c.write_all.new.to).left (g.L.Sink.state c.write_all.new.to).written (g.L.Sink.state c.hear_all.new.link).written out (end_as c.hear_all.result) packed left
    (rw c.as_slice.ensures.value at c.in-Ok.ensures.bytes) heard

pub returns-in-Ok-clause-never : goal.returns-in-Ok-clause-never
returns-in-Ok-clause-never g c =
    let p = c.args.profile.now in
    let out = c.put_asks.new.out in
    let a = g.L.Source.state c.args.link.now in
    let b = g.L.Source.state c.write_all.new.to in
    let x = g.L.Sink.state c.args.link.now in
    let y = g.L.Sink.state c.write_all.new.to in
    let old : IsOne a x = record { faults = g.met.L.Link.one_count c.args.link.now; sound = g.met.L.Link.one_truth c.args.link.now } in
    let new : IsOne b y = record { faults = g.met.L.Link.one_count c.write_all.new.to; sound = g.met.L.Link.one_truth c.write_all.new.to } in
    let is = c.put_asks.ensures.ticks ∙ ap (λ (k : ClientState). (ticks k).client) c.wake.ensures.step in
    let packed = subst (λ (k : ClientState). Packed (SpellsCall p) (ticks k).asks out) c.wake.ensures.step c.in_ok-put_asks.ensures.asks in
    let left = g.met.L.Link.writing_keeps_left c.args.link.now c.write_all.new.to (sym c.write_all.ensures.used.kept) in
    let wrote = subst (λ (l : List ℕ). Wrote x y (length l) (IsErr c.write_all.result)) c.as_slice.ensures.value c.write_all.ensures.used in
    let never = subst (λ (k : ClientState). LinkNeverFails b y (MaySend (client_side p) k) (c.hear_all.result ≡ Err (Refused LinkFault))) is c.hear_all.ensures.never in
    begins_never p a b x y c.args.client.now out _ _ packed left (rw c.as_slice.ensures.value at c.in-Ok.ensures.bytes) old new wrote never
