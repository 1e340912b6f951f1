use Rattle.std.proofs.Common.{arith, refl, ◌<◌, ◌∙◌, ◌≤◌, length, sym, subst, ap, List, Ok, Err}
use Rattle.std.specs.List.{All}
use Rattle.std.proofs.lemmas.Result.{err_from_is_err_and}
use Rattle.std.specs.Vec.{with_item}
use Rattle.box_events.specs.declared.limits.TheConstants.{MAX_FRAME_BYTES}
use Rattle.box_events.specs.declared.requests.Numbered.{Numbered}
use Rattle.box_events.specs.declared.steps.Step.TheVariants as step
use Rattle.box_client.specs.Asking.{ticks}
use Rattle.box_world.specs.Sizes.{call_size}
use Rattle.box_world.specs.declared.fault.StepFault.{StepFault}
use Rattle.tl_base.specs.declared.fault.Fault.{Fault}
use Rattle.update_world.specs.inner.Making.{shown_by}
use Rattle.update_world.specs.inner.Sending.{SendsCalls}
use Rattle.update_world.specs.declared.parts.WorldParts.{WorldParts}
use Rattle.update_world.proofs.ClientSteps.{asks_short, client_at, tick_done, tick_unsent}
use Rattle.update_world.proofs.Exits.{no_such_client}
use Rattle.update_world.proofs.Runs.{may_ask}
use Rattle.update_world.proofs.client_steps.tick.Goals as goal

pub returns-then-client-len-clause-step : goal.returns-then-client-len-clause-step
returns-then-client-len-clause-step c = λ w st. no_such_client c.args.profile.now c.args.parts.now (step.Tick c.args.client) w c.args.client st refl (omega (arith, c.if-client-len.true, c.len.ensures, c.args.parts.now.clients.ok.0))

pub tick-requires : goal.tick-requires
tick-requires c =
    let a : WorldParts = c.args.parts.now in
    let lt : c.args.client < length a.clients.items = omega (arith, c.if-client-len.false, c.len.ensures, a.clients.ok.0) in
    record { limit = (may_ask (shown_by c.args.profile.now a) c.requires c.args.client c.index_mut.result.now (client_at a.clients.items c.args.client c.index_mut.result.now lt c.index_mut.ensures.value)).limit }

pub send_calls-requires-clause-short : goal.send_calls-requires-clause-short
send_calls-requires-clause-short c = subst (All (λ (n : Numbered). call_size n ≤ MAX_FRAME_BYTES)) (sym c.tick.ensures.asks) (asks_short c.index_mut.result.now)

pub returns-in_err-first-clause-step : goal.returns-in_err-first-clause-step
returns-in_err-first-clause-step c = λ w st.
    let a : WorldParts = c.args.parts.now in
    let b : WorldParts = record { server = a.server; clients = with_item a.clients c.args.client c.tick.new.self; pool = c.send_calls.new.pool } in
    let lt : c.args.client < length a.clients.items = omega (arith, c.if-client-len.false, c.len.ensures, a.clients.ok.0) in
    let e : Fault StepFault = c.in_err-first.field-0.0 in
    let sends : SendsCalls c.args.profile.now c.args.client (ticks c.index_mut.result.now).asks a.pool (Err e) c.send_calls.new.pool =
    subst (λ (ns : List Numbered). SendsCalls c.args.profile.now c.args.client ns a.pool (Err e) c.send_calls.new.pool) c.tick.ensures.asks c.in_err-first.ensures in
    let p = err_from_is_err_and c.from_residual.result c.from_residual.ensures.1 in
    rw (p.1, p.2) (tick_unsent c.args.profile.now a b w c.args.client c.index_mut.result.now c.send_calls.new.pool e c.requires st lt (client_at a.clients.items c.args.client c.index_mut.result.now lt c.index_mut.ensures.value) sends)

pub returns-clause-step : goal.returns-clause-step
returns-clause-step c = λ w st.
    let a : WorldParts = c.args.parts.now in
    let b : WorldParts = record { server = a.server; clients = with_item a.clients c.args.client c.tick.new.self; pool = c.send_calls.new.pool } in
    let lt : c.args.client < length a.clients.items = omega (arith, c.if-client-len.false, c.len.ensures, a.clients.ok.0) in
    let sends : SendsCalls c.args.profile.now c.args.client (ticks c.index_mut.result.now).asks a.pool (Ok c.in_ok-first.first) c.send_calls.new.pool =
    subst (λ (ns : List Numbered). SendsCalls c.args.profile.now c.args.client ns a.pool (Ok c.in_ok-first.first) c.send_calls.new.pool) c.tick.ensures.asks c.in_ok-first.ensures in
    tick_done c.args.profile.now a b w c.args.client c.in_ok-first.first c.len-asks.result c.index_mut.result.now c.tick.new.self c.requires st lt (client_at a.clients.items c.args.client c.index_mut.result.now lt c.index_mut.ensures.value)
    sends c.tick.ensures.step (c.len-asks.ensures.value ∙ ap length c.tick.ensures.asks) refl refl
