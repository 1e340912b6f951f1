-- What came of a step is told by numbers as by the clients themselves.
use Rattle.std.proofs.Common.{◌≡◌, ℕ, zero, suc, ◌<◌, List, [], ◌∷◌, length, map, Bool, true, false, cond, ltb, is_some, ◌||◌, Option, Some, None, refl, sym, ap, ap₂, ◌∙◌, subst, arith}
use Rattle.std.specs.Prelude.{slice_get, option_map, ℤ}
use Rattle.std.specs.FinMap as finite
use Rattle.std.proofs.lemmas.Option.{slice_get-map}
use Rattle.std.proofs.lemmas.List.{length-map}
use Rattle.box_events.specs.declared.limits.TheConstants.{MAX_CHANNELS}
use Rattle.box_events.specs.declared.positions.Receipt.{Receipt}
use Rattle.box_events.specs.declared.requests.Numbered.{Numbered}
use Rattle.box_events.specs.declared.requests.Post.{Post}
use Rattle.box_events.specs.declared.steps.Step.{Step}
use Rattle.box_events.specs.declared.steps.Step.TheVariants as step
use Rattle.channel_box.specs.States.{ChannelState, first, has_id}
use Rattle.channel_box.specs.Steps.{asks_number, is_asking, may_watch}
use Rattle.channel_box.specs.declared.fault.WatchFault.TheVariants.{Already, TooMany}
use Rattle.box_server.specs.Refusing.{post_cause}
use Rattle.box_server.specs.declared.fault.PostFault.{PostFault}
use Rattle.box_client.specs.States.{ClientState}
use Rattle.box_client.specs.Numbers.{channel_numbers, client_numbers, n_asks_number, n_first, n_has_id}
use Rattle.box_world.specs.NumberWorlds.{numbers_of, n_may_watch}
use Rattle.box_world.specs.Worlds.{Packet, push, request, reply, World, happens}
use Rattle.box_world.specs.Possible.{client_of, packet_of}
use Rattle.box_world.proofs.NumberWorlds.{requests_numbers}
use Rattle.report_lines.specs.Texts.{heard_text, ticked_text, watched_text}
use Rattle.report_lines.specs.declared.heard.HeardAs.{HeardAs}
use Rattle.report_lines.specs.declared.heard.HeardAs.TheVariants as told
use Rattle.update_replay.specs.StepLines as reports
use Rattle.update_world.specs.Outcomes as outcomes
use Rattle.update_world.specs.Outcomes.{outcome_of}
use Rattle.update_world.specs.Shown.{Shown}
use Rattle.update_replay.specs.WorldLines.{heard_of, outcome_text, restarted_of}

-- ---- channels

over : {A B : Type 0} (b : Bool) (x : A) (y : B) (o : Option A) (q : Option B) → is_some o ≡ is_some q → is_some (cond b (Some x) o) ≡ is_some (cond b (Some y) q)
over true x y o q is = refl
over false x y o q is = is

asker : (n : ℕ) (cs : List ChannelState) → is_some (first (asks_number n) cs) ≡ is_some (n_first (n_asks_number n) (map channel_numbers cs))
asker n [] = refl
asker n (c ∷ cs) = over (asks_number n c) c (channel_numbers c) (first (asks_number n) cs) (n_first (n_asks_number n) (map channel_numbers cs)) (asker n cs)

named : (id : ℤ) (cs : List ChannelState) → is_some (first (has_id id) cs) ≡ is_some (n_first (n_has_id id) (map channel_numbers cs))
named id [] = refl
named id (c ∷ cs) = over (has_id id c) c (channel_numbers c) (first (has_id id) cs) (n_first (n_has_id id) (map channel_numbers cs)) (named id cs)

may : (cs : List ChannelState) (id : ℤ) → may_watch cs id ≡ n_may_watch (map channel_numbers cs) id
may cs id = ap₂ (λ (b : Bool) (n : ℕ). cond b false (ltb n MAX_CHANNELS)) (named id cs) (sym (length-map cs channel_numbers))

-- ---- clients

heard_same : (c : ClientState) (m : Packet) → outcomes.heard_as c m ≡ reports.heard_as (client_numbers c) m
heard_same c (push p) = refl
heard_same c (request k n) = refl
heard_same c (reply k n r s) = ap (λ (b : Bool). cond (is_asking n c.common.mode || b) told.Reply told.Stale) (asker n c.channels)

watch_same : (id : ℤ) (c : ClientState) → outcomes.watch_cause id (Some c) ≡ reports.watch_cause id (client_numbers c)
watch_same id c = ap₂ (λ (b d : Bool). cond b None (Some (cond d Already TooMany))) (may c.channels id) (named id c.channels)

-- the clients of a world as numbers
numbers_at : (cs : List ClientState) (k : ℕ) (c : ClientState) → slice_get cs k ≡ Some c → slice_get (map client_numbers cs) k ≡ Some (client_numbers c)
numbers_at cs k c is = slice_get-map client_numbers cs k ∙ ap (option_map client_numbers) is

-- there is one of each number below their count
found : {A : Type 0} (xs : List A) (k : ℕ) → k < length xs → (x : A) × (slice_get xs k ≡ Some x)
found [] k lt = absurd (omega (arith, lt))
found (x ∷ xs) zero lt = (x, refl)
found (x ∷ xs) (suc k) lt = found xs k (omega (arith, lt))

-- ---- steps

posts : (w : World) (random_id : ℤ) (ps : List Post) (o : Option Receipt) (cause : Option PostFault) (new : Shown) → outcome_text new (outcomes.post_outcome w random_id ps o cause) ≡ reports.post_text (numbers_of w) random_id ps o cause
posts w random_id ps (Some receipt) cause new = refl
posts w random_id ps None (Some fault) new = refl
posts w random_id ps None None new = refl

hears : (w v : World) (k m : ℕ) (new : Shown) (c d : ClientState) (x : Packet) → slice_get w.clients k ≡ Some c → slice_get w.pool m ≡ Some x → slice_get v.clients k ≡ Some d → new.clients ≡ v.clients
    → heard_of k (outcomes.heard_by (slice_get w.clients k) (slice_get w.pool m)) (slice_get new.clients k) ≡ reports.hear_text k (slice_get (map client_numbers w.clients) k) (slice_get w.pool m) (slice_get (map client_numbers v.clients) k)
hears w v k m new c d x at_c at_x at_d same =
    let at_new : slice_get new.clients k ≡ Some d = ap (λ (cs : List ClientState). slice_get cs k) same ∙ at_d in
    (λ i. heard_of k (outcomes.heard_by (at_c i) (at_x i)) (at_new i))
    ∙ ap (λ (a : HeardAs). heard_text k a (client_numbers d)) (heard_same c x)
    ∙ (λ i. reports.hear_text k (sym (numbers_at w.clients k c at_c) i) (sym at_x i) (sym (numbers_at v.clients k d at_d) i))

ticks_told : (w : World) (k : ℕ) (c : ClientState) → slice_get w.clients k ≡ Some c → ticked_text k (outcomes.asks_of (slice_get w.clients k)) ≡ reports.tick_text k (slice_get (map client_numbers w.clients) k)
ticks_told w k c at =
    ap (λ (o : Option ClientState). ticked_text k (outcomes.asks_of o)) at
    ∙ ap (λ (ns : List Numbered). ticked_text k (length ns)) (requests_numbers c)
    ∙ ap (reports.tick_text k) (sym (numbers_at w.clients k c at))

watches_told : (w : World) (k : ℕ) (id : ℤ) (c : ClientState) → slice_get w.clients k ≡ Some c → watched_text k id (outcomes.watch_cause id (slice_get w.clients k)) ≡ reports.watch_text k id (slice_get (map client_numbers w.clients) k)
watches_told w k id c at =
    ap (λ (o : Option ClientState). watched_text k id (outcomes.watch_cause id o)) at
    ∙ ap (watched_text k id) (watch_same id c)
    ∙ ap (reports.watch_text k id) (sym (numbers_at w.clients k c at))

restarts_told : (v : World) (k : ℕ) (new : Shown) (d : ClientState) → slice_get v.clients k ≡ Some d → new.clients ≡ v.clients → restarted_of k (slice_get new.clients k) ≡ reports.restart_text k (slice_get (map client_numbers v.clients) k)
restarts_told v k new d at same =
    ap (λ (cs : List ClientState). restarted_of k (slice_get cs k)) same ∙ ap (restarted_of k) at ∙ ap (reports.restart_text k) (sym (numbers_at v.clients k d at))

-- the client and the packet that a step names are there
abbrev Names : World → Step → Type 0
Names w s = ((k : ℕ) → client_of s ≡ Some k → k < length w.clients) × ((m : ℕ) → packet_of s ≡ Some m → m < length w.pool)

pub text_is : (w : World) (s : Step) (new : Shown) → Names w s → length (happens w s).clients ≡ length w.clients → new.clients ≡ (happens w s).clients
    → outcome_text new (outcome_of w s) ≡ reports.step_text (numbers_of w) s (numbers_of (happens w s))
unfolding outcome_of
text_is w (step.Post random_id ps) new there many same = posts w random_id ps (finite.get w.server.receipts random_id) (post_cause w.server ps) new
text_is w (step.Date date) new there many same = refl
text_is w (step.Serve m) new there many same = refl
text_is w (step.Hear k m) new there many same =
    let lt = there.0 k refl in
    let c = found w.clients k lt in
    let x = found w.pool m (there.1 m refl) in
    let d = found (happens w (step.Hear k m)).clients k (subst (λ (n : ℕ). k < n) (sym many) lt) in
    hears w (happens w (step.Hear k m)) k m new c.0 d.0 x.0 c.1 x.1 d.1 same
text_is w (step.Tick k) new there many same = let c = found w.clients k (there.0 k refl) in ticks_told w k c.0 c.1
text_is w (step.Wake k) new there many same = refl
text_is w (step.Watch k id) new there many same = let c = found w.clients k (there.0 k refl) in watches_told w k id c.0 c.1
text_is w (step.Restart k) new there many same =
    let d = found (happens w (step.Restart k)).clients k (subst (λ (n : ℕ). k < n) (sym many) (there.0 k refl)) in
    restarts_told (happens w (step.Restart k)) k new d.0 d.1 same
text_is w step.TooLong new there many same = refl
text_is w (step.ChannelTooLong id) new there many same = refl
