-- What a client does by itself: it wakes, watches a channel, begins anew, asks.
use Rattle.std.proofs.Common.{◌≡◌, ◌≢◌, inl, inr, ℕ, ◌<◌, ◌≤◌, ℤ, List, [], ◌∷◌, ◌++◌, length, map, set, get_or, true, false, cond, ltb, Option, Some, None, Ok, Err, refl, sym, ap, ◌∙◌, subst, arith}
use Rattle.std.specs.Prelude.{slice_get}
use Rattle.std.specs.List.{All}
use Rattle.std.proofs.lemmas.Option.{slice_get-get_or}
use Rattle.std.proofs.lemmas.Bool.Decides.{nat_tests}
use Rattle.std.proofs.lemmas.List.Elements.{All-head, All-tail, All-weaker}
use Rattle.box_events.specs.declared.limits.TheConstants.{MAX_CHANNELS, MAX_FRAME_BYTES}
use Rattle.box_events.specs.declared.requests.Numbered.{Numbered}
use Rattle.box_events.specs.declared.steps.Step.{Step}
use Rattle.box_events.specs.declared.steps.Step.TheVariants as step
use Rattle.channel_box.specs.States.{ChannelState}
use Rattle.channel_box.specs.Steps.{channel_of, is_watched, may_watch, watched_if}
use Rattle.channel_box.specs.declared.fault.WatchFault.{WatchFault}
use Rattle.channel_box.specs.declared.fault.WatchFault.TheVariants.{Already, TooMany, Memory as WatchMemory}
use Rattle.pts_machine.specs.Steps.{new_lane}
use Rattle.box_client.specs.States.{ClientState}
use Rattle.box_client.specs.Asking.{ticks, wakes, restarted}
use Rattle.box_client.specs.Calls.{WatchesOne}
use Rattle.wire_profile.specs.Indexes.{ProfileView}
use Rattle.box_world.specs.Worlds.{request, World, asks, client_steps, goes_on, happens, watches}
use Rattle.box_world.specs.declared.fault.StepFault.TheVariants.{NoClient}
use Rattle.box_world.specs.Possible.{past}
use Rattle.box_world.specs.Sizes.{call_size}
use Rattle.box_world.specs.Fitting.{CallFits}
use Rattle.box_world.proofs.AsksFit.{asks_fit}
use Rattle.box_world.proofs.PushesBelow.{asks_below}
use Rattle.box_world.specs.declared.fault.StepFault.{StepFault}
use Rattle.tl_base.specs.declared.fault.Fault.{Fault}
use Rattle.tl_base.specs.declared.fault.Fault.TheVariants.{Memory}
use Rattle.update_world.specs.declared.outcome.Outcome.{Outcome}
use Rattle.update_world.specs.declared.outcome.Outcome.TheVariants as outcome
use Rattle.update_world.specs.declared.parts.WorldParts.{WorldParts}
use Rattle.update_world.specs.declared.sent.SentPacket.{SentPacket}
use Rattle.update_world.specs.Outcomes.{asks_of, outcome_of, watch_cause}
use Rattle.update_world.specs.Shown.{StandsFor}
use Rattle.update_world.specs.Spelled.{AreSent}
use Rattle.update_world.specs.Stepping.{Happens}
use Rattle.update_world.specs.inner.Making.{IsSteady, shown_after, shown_by}
use Rattle.update_world.specs.inner.Sending.{AreAsked, SendsCalls}
use Rattle.update_world.proofs.Exits.{done, unsent}
use Rattle.update_world.proofs.Posts.{stays}
use Rattle.update_world.proofs.Refusals.{Reaches, there}
use Rattle.update_world.proofs.Runs.{MayAsk, may_ask}
use Rattle.update_world.proofs.SentLists.{sent_append, sent_length}

-- the client that is taken of a list
pub client_at : (cs : List ClientState) (k : ℕ) (c : ClientState) → k < length cs → c ≡ get_or cs k c → slice_get cs k ≡ Some c
client_at cs k c lt is = slice_get-get_or cs k c lt ∙ ap (λ (d : ClientState). Some d) (sym is)

-- ---- steps of one client alone

pub client_done : (p : ProfileView) (a b : WorldParts) (s : Step) (w : World) (k : ℕ) (f : ClientState → ClientState) (c d : ClientState) (o : Outcome) → IsSteady (shown_by p a) → StandsFor (shown_by p a) w → Reaches w s
    → happens w s ≡ client_steps w k f (slice_get w.clients k) → slice_get a.clients.items k ≡ Some c → d ≡ f c → b.server ≡ a.server → b.clients.items ≡ set a.clients.items k d → b.pool ≡ a.pool → o ≡ outcome_of w s
    → Happens (shown_by p a) s w (Ok o) (shown_after p b (Ok o))
client_done p a b s w k f c d o steady st r is at made server clients pool told =
    let cl : slice_get w.clients k ≡ Some c = ap (λ (cs : List ClientState). slice_get cs k) st.clients ∙ at in
    let now : happens w s ≡ goes_on w k (f c) = is ∙ ap (client_steps w k f) cl in
    stays p steady.profile a b s w o r st steady.most (ap (λ (v : World). v.pool) now) pool
    (ap (λ (v : World). v.server) now ∙ st.server ∙ sym server)
    (ap (λ (v : World). v.clients) now ∙ (λ i. set (st.clients i) k (sym made i)) ∙ sym clients) told

is_there : (p : ProfileView) (a : WorldParts) (w : World) (k : ℕ) → StandsFor (shown_by p a) w → k < length a.clients.items → past NoClient (length w.clients) (Some k) ≡ None
is_there p a w k st lt = there NoClient (length w.clients) k (subst (λ (n : ℕ). k < n) (sym (ap length st.clients)) lt)

pub wake_done : (p : ProfileView) (a b : WorldParts) (w : World) (k : ℕ) (c d : ClientState) → IsSteady (shown_by p a) → StandsFor (shown_by p a) w → k < length a.clients.items → slice_get a.clients.items k ≡ Some c → d ≡ wakes c
    → b.server ≡ a.server → b.clients.items ≡ set a.clients.items k d → b.pool ≡ a.pool → Happens (shown_by p a) (step.Wake k) w (Ok (outcome.Woken k)) (shown_after p b (Ok (outcome.Woken k)))
unfolding outcome_of
wake_done p a b w k c d steady st lt at made server clients pool =
    client_done p a b (step.Wake k) w k wakes c d (outcome.Woken k) steady st (record { client = is_there p a w k st lt; packet = refl; right = refl }) refl at made server clients pool refl

pub restart_done : (p : ProfileView) (a b : WorldParts) (w : World) (k : ℕ) (c d : ClientState) → IsSteady (shown_by p a) → StandsFor (shown_by p a) w → k < length a.clients.items → slice_get a.clients.items k ≡ Some c → d ≡ restarted c
    → b.server ≡ a.server → b.clients.items ≡ set a.clients.items k d → b.pool ≡ a.pool → Happens (shown_by p a) (step.Restart k) w (Ok (outcome.Restarted k)) (shown_after p b (Ok (outcome.Restarted k)))
unfolding outcome_of
restart_done p a b w k c d steady st lt at made server clients pool =
    client_done p a b (step.Restart k) w k restarted c d (outcome.Restarted k) steady st (record { client = is_there p a w k st lt; packet = refl; right = refl }) refl at made server clients pool refl

-- ---- watching

-- a channel that may be watched, and one that may not
pub record Watched (c d : ClientState) (id : ℤ) (refused : Option WatchFault) : Type 0 where
  pub client : d ≡ watches id c
  pub cause : refused ≡ watch_cause id (Some c)

below : (n m : ℕ) → n < m → ltb n m ≡ true
below n m lt = grind (arith, nat_tests)

not_below : (n m : ℕ) → m ≤ n → ltb n m ≡ false
not_below n m le = grind (arith, nat_tests)

may : (cs : List ChannelState) (id : ℤ) → is_watched cs id ≡ false → length cs < MAX_CHANNELS → may_watch cs id ≡ true
may cs id not few = (λ i. cond (not i) false (ltb (length cs) MAX_CHANNELS)) ∙ below (length cs) MAX_CHANNELS few

pub watched_now : (c d : ClientState) (id : ℤ) → WatchesOne c id (Ok tt) d → Watched c d id None
watched_now c d id h =
    let can : may_watch c.channels id ≡ true = may c.channels id h.0 h.1 in
    record {
      client = h.2 ∙ λ i. record c { channels = watched_if (sym can i) c.channels (channel_of id new_lane []) };
      cause = λ i. cond (sym can i) None (Some (cond (is_watched c.channels id) Already TooMany));
    }

pub watched_already : (c d : ClientState) (id : ℤ) → WatchesOne c id (Err Already) d → Watched c d id (Some Already)
watched_already c d id h =
    let not : may_watch c.channels id ≡ false = λ i. cond (h.0 i) false (ltb (length c.channels) MAX_CHANNELS) in
    record {
      client = h.1 ∙ λ i. record c { channels = watched_if (sym not i) c.channels (channel_of id new_lane []) };
      cause = λ i. cond (sym not i) None (Some (cond (sym h.0 i) Already TooMany));
    }

pub watched_too_many : (c d : ClientState) (id : ℤ) → WatchesOne c id (Err TooMany) d → Watched c d id (Some TooMany)
watched_too_many c d id h =
    let not : may_watch c.channels id ≡ false = (λ i. cond (h.0 i) false (ltb (length c.channels) MAX_CHANNELS)) ∙ not_below (length c.channels) MAX_CHANNELS h.1 in
    record {
      client = h.2 ∙ λ i. record c { channels = watched_if (sym not i) c.channels (channel_of id new_lane []) };
      cause = λ i. cond (sym not i) None (Some (cond (sym h.0 i) Already TooMany));
    }

-- a refusal that isn't out of memory
pub watched_refused : (c d : ClientState) (id : ℤ) (e : WatchFault) → e ≢ WatchMemory → WatchesOne c id (Err e) d → Watched c d id (Some e)
watched_refused c d id Already not h = watched_already c d id h
watched_refused c d id TooMany not h = watched_too_many c d id h
watched_refused c d id WatchMemory not h = absurd (not refl)

pub watch_done : (p : ProfileView) (a b : WorldParts) (w : World) (k : ℕ) (id : ℤ) (c d : ClientState) (refused : Option WatchFault) → IsSteady (shown_by p a) → StandsFor (shown_by p a) w → k < length a.clients.items
    → slice_get a.clients.items k ≡ Some c → Watched c d id refused → b.server ≡ a.server → b.clients.items ≡ set a.clients.items k d → b.pool ≡ a.pool
    → Happens (shown_by p a) (step.Watch k id) w (Ok (outcome.Watched k id refused)) (shown_after p b (Ok (outcome.Watched k id refused)))
unfolding outcome_of
watch_done p a b w k id c d refused steady st lt at made server clients pool =
    let cl : slice_get w.clients k ≡ Some c = ap (λ (cs : List ClientState). slice_get cs k) st.clients ∙ at in
    client_done p a b (step.Watch k id) w k (watches id) c d (outcome.Watched k id refused) steady st (record { client = is_there p a w k st lt; packet = refl; right = refl }) refl at made.client server clients pool
    (ap (outcome.Watched k id) made.cause ∙ λ i. outcome.Watched k id (watch_cause id (sym cl i)))

-- ---- asking

-- the requests are spelled, and may be read again
asked_sent : (p : ProfileView) (k : ℕ) (ns : List Numbered) (ss : List SentPacket) → AreAsked p k ns ss → All CallFits ns → AreSent p ss (map (request k) ns)
asked_sent p k [] [] h fits = tt
asked_sent p k [] (s ∷ ss) h fits = absurd h
asked_sent p k (n ∷ ns) [] h fits = absurd h
asked_sent p k (n ∷ ns) (s ∷ ss) h fits = (record { to = h.0; bytes = h.1; read = All-head CallFits n ns fits }, asked_sent p k ns ss h.2 (All-tail CallFits n ns fits))

all_fit : (c : ClientState) → MayAsk c → All CallFits (ticks c).asks
all_fit c m = let limit = m.limit in asks_fit c m.low (omega (arith, limit)) m.date m.few

tick_reaches : (p : ProfileView) (a : WorldParts) (w : World) (k : ℕ) → StandsFor (shown_by p a) w → k < length a.clients.items → Reaches w (step.Tick k)
tick_reaches p a w k st lt = record { client = is_there p a w k st lt; packet = refl; right = refl }

tick_pool : (p : ProfileView) (a : WorldParts) (w : World) (k : ℕ) (c : ClientState) (more : List SentPacket) → IsSteady (shown_by p a) → StandsFor (shown_by p a) w → slice_get a.clients.items k ≡ Some c → AreAsked p k (ticks c).asks more
    → AreSent p (a.pool ++ more) (happens w (step.Tick k)).pool
tick_pool p a w k c more steady st at asked =
    let cl : slice_get w.clients k ≡ Some c = ap (λ (cs : List ClientState). slice_get cs k) st.clients ∙ at in
    subst (λ (v : World). AreSent p (a.pool ++ more) v.pool) (sym (ap (asks w k) cl))
    (sent_append p a.pool more w.pool (map (request k) (ticks c).asks) st.pool (asked_sent p k (ticks c).asks more asked (all_fit c (may_ask (shown_by p a) steady k c at))))

pub tick_unsent : (p : ProfileView) (a b : WorldParts) (w : World) (k : ℕ) (c : ClientState) (new : List SentPacket) (e : Fault StepFault) → IsSteady (shown_by p a) → StandsFor (shown_by p a) w → k < length a.clients.items → slice_get a.clients.items k ≡ Some c
    → SendsCalls p k (ticks c).asks a.pool (Err e) new → Happens (shown_by p a) (step.Tick k) w (Err e) (shown_after p b (Err e))
tick_unsent p a b w k c new e steady st lt at (inl q) = let is : e ≡ Memory = cc in subst (λ (x : Fault StepFault). Happens (shown_by p a) (step.Tick k) w (Err x) (shown_after p b (Err x))) (sym is) refl
tick_unsent p a b w k c new e steady st lt at (inr h) =
    unsent p steady.profile a b (step.Tick k) w a.pool h.0 new e (tick_reaches p a w k st lt) (tick_pool p a w k c h.0 steady st at h.1) h.2

pub tick_done : (p : ProfileView) (a b : WorldParts) (w : World) (k n many : ℕ) (c d : ClientState) → IsSteady (shown_by p a) → StandsFor (shown_by p a) w → k < length a.clients.items → slice_get a.clients.items k ≡ Some c
    → SendsCalls p k (ticks c).asks a.pool (Ok n) b.pool → d ≡ (ticks c).client → many ≡ length (ticks c).asks → b.server ≡ a.server → b.clients.items ≡ set a.clients.items k d
    → Happens (shown_by p a) (step.Tick k) w (Ok (outcome.Ticked k many n)) (shown_after p b (Ok (outcome.Ticked k many n)))
unfolding outcome_of
tick_done p a b w k n many c d steady st lt at (inl q) made count server clients = absurd cc
tick_done p a b w k n many c d steady st lt at (inr h) made count server clients =
    let cl : slice_get w.clients k ≡ Some c = ap (λ (cs : List ClientState). slice_get cs k) st.clients ∙ at in
    let now : happens w (step.Tick k) ≡ asks w k (Some c) = ap (asks w k) cl in
    done p steady.profile a b (step.Tick k) w (outcome.Ticked k many n) (tick_reaches p a w k st lt)
    (λ i. outcome.Ticked k ((count ∙ ap asks_of (sym cl)) i) ((h.2.0 ∙ sent_length p a.pool w.pool st.pool) i))
    (record {
      server = ap (λ (v : World). v.server) now ∙ st.server ∙ sym server;
      clients = ap (λ (v : World). v.clients) now ∙ (λ i. set (st.clients i) k (sym made i)) ∙ sym clients;
      pool = subst (λ (ss : List SentPacket). AreSent p ss (happens w (step.Tick k)).pool) (sym h.2.1) (tick_pool p a w k c h.0 steady st at h.1);
    }) h.2.2

-- what is asked is short
pub asks_short : (c : ClientState) → All (λ n. call_size n ≤ MAX_FRAME_BYTES) (ticks c).asks
asks_short c = All-weaker (λ n. call_size n ≡ 24) (λ n. call_size n ≤ MAX_FRAME_BYTES) (λ n is. omega (arith, is)) (ticks c).asks (asks_below c)
