use Rattle.std.proofs.Common.{arith, refl, sym, ◌≡◌, ◌<◌, ℤ, length, rules, w64, Some, None, Ok, Err, to_z, of_z, subst}
use Rattle.std.proofs.lemmas.Int.{to_z-of_z}
use Rattle.std.specs.Vec.{with_item}
use Rattle.box_events.specs.declared.steps.Step.TheVariants as step
use Rattle.box_client.specs.Calls.{WatchesOne}
use Rattle.channel_box.specs.declared.fault.WatchFault.TheVariants.{Already, TooMany}
use Rattle.update_world.specs.declared.outcome.Outcome.TheVariants as outcome
use Rattle.update_world.specs.declared.parts.WorldParts.{WorldParts}
use Rattle.update_world.specs.Stepping.{Happens}
use Rattle.update_world.specs.inner.Making.{shown_after, shown_by}
use Rattle.update_world.proofs.ClientSteps.{client_at, watch_done, watched_already, watched_now, watched_too_many}
use Rattle.update_world.proofs.Exits.{no_such_client}
use Rattle.update_world.proofs.client_steps.watch.Goals as goal

pub returns-then-client-len-clause-step : goal.returns-then-client-len-clause-step
returns-then-client-len-clause-step c = λ p steady w st. no_such_client p c.args.parts.now (step.Watch c.args.client c.args.id) w c.args.client st refl (omega (arith, c.if-client-len.true, c.len.ensures, c.args.parts.now.clients.ok.0))

pub returns-in-Ok-clause-step : goal.returns-in-Ok-clause-step
returns-in-Ok-clause-step c = λ p steady w st.
    let a : WorldParts = c.args.parts.now in
    let k = c.args.client in
    let b : WorldParts = record { server = a.server; clients = with_item a.clients k c.watch.new.self; pool = a.pool } in
    let lt : k < length a.clients.items = omega (arith, c.if-client-len.false, c.len.ensures, a.clients.ok.0) in
    let id : to_z w64 (of_z w64 c.args.id) ≡ c.args.id = to_z-of_z w64 c.args.id (search rules) in
    subst (λ (z : ℤ). Happens (shown_by p a) (step.Watch k c.args.id) w (Ok (outcome.Watched k z None)) (shown_after p b (Ok (outcome.Watched k z None)))) (sym id)
    (watch_done p a b w k c.args.id c.index_mut.result.now c.watch.new.self None steady st lt (client_at a.clients.items k c.index_mut.result.now lt c.index_mut.ensures.value)
    (watched_now c.index_mut.result.now c.watch.new.self c.args.id (subst (λ (z : ℤ). WatchesOne c.index_mut.result.now z (Ok tt) c.watch.new.self) id c.in-Ok.ensures.step)) refl refl refl)

pub returns-in-Err-Already-clause-step : goal.returns-in-Err-Already-clause-step
returns-in-Err-Already-clause-step c = λ p steady w st.
    let a : WorldParts = c.args.parts.now in
    let k = c.args.client in
    let b : WorldParts = record { server = a.server; clients = with_item a.clients k c.watch.new.self; pool = a.pool } in
    let lt : k < length a.clients.items = omega (arith, c.if-client-len.false, c.len.ensures, a.clients.ok.0) in
    let id : to_z w64 (of_z w64 c.args.id) ≡ c.args.id = to_z-of_z w64 c.args.id (search rules) in
    let refused : WatchesOne c.index_mut.result.now (to_z w64 (of_z w64 c.args.id)) (Err Already) c.watch.new.self = rw c.in-Err-Already.field-0-is at c.in-Err-Already.ensures.step in
    subst (λ (z : ℤ). Happens (shown_by p a) (step.Watch k c.args.id) w (Ok (outcome.Watched k z (Some Already))) (shown_after p b (Ok (outcome.Watched k z (Some Already))))) (sym id)
    (watch_done p a b w k c.args.id c.index_mut.result.now c.watch.new.self (Some Already) steady st lt (client_at a.clients.items k c.index_mut.result.now lt c.index_mut.ensures.value)
    (watched_already c.index_mut.result.now c.watch.new.self c.args.id (subst (λ (z : ℤ). WatchesOne c.index_mut.result.now z (Err Already) c.watch.new.self) id refused)) refl refl refl)

pub returns-in-Err-TooMany-clause-step : goal.returns-in-Err-TooMany-clause-step
returns-in-Err-TooMany-clause-step c = λ p steady w st.
    let a : WorldParts = c.args.parts.now in
    let k = c.args.client in
    let b : WorldParts = record { server = a.server; clients = with_item a.clients k c.watch.new.self; pool = a.pool } in
    let lt : k < length a.clients.items = omega (arith, c.if-client-len.false, c.len.ensures, a.clients.ok.0) in
    let id : to_z w64 (of_z w64 c.args.id) ≡ c.args.id = to_z-of_z w64 c.args.id (search rules) in
    let refused : WatchesOne c.index_mut.result.now (to_z w64 (of_z w64 c.args.id)) (Err TooMany) c.watch.new.self = rw c.in-Err-TooMany.field-0-is at c.in-Err-TooMany.ensures.step in
    subst (λ (z : ℤ). Happens (shown_by p a) (step.Watch k c.args.id) w (Ok (outcome.Watched k z (Some TooMany))) (shown_after p b (Ok (outcome.Watched k z (Some TooMany))))) (sym id)
    (watch_done p a b w k c.args.id c.index_mut.result.now c.watch.new.self (Some TooMany) steady st lt (client_at a.clients.items k c.index_mut.result.now lt c.index_mut.ensures.value)
    (watched_too_many c.index_mut.result.now c.watch.new.self c.args.id (subst (λ (z : ℤ). WatchesOne c.index_mut.result.now z (Err TooMany) c.watch.new.self) id refused)) refl refl refl)
