-- Worlds after steps that were read have packets with a spelling.
use Rattle.std.specs.Prelude.{pos, slice_get, zero}
use Rattle.std.proofs.Common.{◌≡◌, inl, inr, ℕ, suc, ◌+◌, ◌<◌, ◌≤◌, ◌^◌, ℤ, List, [], ◌∷◌, ◌++◌, length, length-append, set, map as each, cond, eqb, Bool, true, false, Option, Some, None, refl, sym, ap, ◌∙◌, subst, arith}
use Rattle.std.specs.List.{All}
use Rattle.std.specs.FinMap as map
use Rattle.std.specs.Int.{w32}
use Rattle.std.proofs.lemmas.Int.{to_z_pos}
use Rattle.std.proofs.lemmas.List.{length-map}
use Rattle.std.proofs.lemmas.List.Elements.{All-nil, All-cons, All-head, All-tail}
use Rattle.tl_types.specs.Values.{values_of}
use Rattle.box_events.specs.declared.limits.TheConstants.{MAX_END}
use Rattle.box_events.specs.declared.positions.Receipt.{Receipt}
use Rattle.box_events.specs.declared.requests.Numbered.{Numbered}
use Rattle.box_events.specs.declared.requests.Post.{Post}
use Rattle.box_events.specs.declared.requests.Request.{Request}
use Rattle.box_events.specs.declared.requests.Request.TheVariants as request_of
use Rattle.box_events.specs.declared.replies.Reply.{Reply}
use Rattle.box_events.specs.declared.steps.Step.{Step}
use Rattle.box_events.specs.declared.steps.Step.TheVariants as step
use Rattle.box_events.specs.Events.{EventView}
use Rattle.box_events.specs.Boxes.{ending, IsBoundary}
use Rattle.box_events.proofs.Boundaries.{ending-append}
use Rattle.channel_box.specs.States.{ChannelState}
use Rattle.channel_box.specs.Steps.{Ticked, ticked, and_asks, and_waits, ask_of, channel_is_due}
use Rattle.box_server.specs.declared.fault.PostFault.{PostFault}
use Rattle.box_server.specs.Servers.{ServerState, channel_in, dated_at}
use Rattle.box_server.specs.Posting.{push_of}
use Rattle.box_server.specs.Refusing.{post_cause}
use Rattle.box_server.specs.Answers.{answer}
use Rattle.box_server.specs.Sound.{IsSound}
use Rattle.box_server.proofs.Carrying.{changed_overlays}
use Rattle.box_server.proofs.NewServers.{sound_new}
use Rattle.box_server.proofs.Soundness.{dated_sound, posted_sound}
use Rattle.box_client.specs.States.{ClientState}
use Rattle.box_client.specs.Asking.{group_is_due, group_asks, difference_of, channels_ticked, ticks, wakes, restarted}
use Rattle.box_client.specs.Laws.{AreNumbered}
use Rattle.box_client.specs.Replies.{Outcome, ignored, refuses, becomes, replied}
use Rattle.box_client.proofs.GivenOnce.{asks_numbered, next_past}
use Rattle.wire_forms.specs.IsOf.{IsInt, IsLong}
use Rattle.wire_forms.specs.Parts.{number}
use Rattle.wire_forms.specs.declared.numbers.TheConstants.{STEP_DATE}
use Rattle.wire_forms.proofs.Words.{again}
use Rattle.wire_values.specs.Carried.{FitsCall, FitsPost}
use Rattle.wire_values.specs.CarriedFrames.{FitsPush, FitsReply}
use Rattle.wire_values.specs.Steps.{step_tree}
use Rattle.wire_profile.specs.declared.rule.Rule.TheVariants.{Date}
use Rattle.wire_profile.specs.declared.rule.Root.TheVariants.{Step as StepRoot}
use Rattle.wire_profile.proofs.ClearValues.{clear_here, clear_of}
use Rattle.wire_profile.proofs.RuleFacts.{date_is}
use Rattle.box_world.specs.Worlds.{Packet, push, request, reply, World, after_reply, client_steps, post_by, served, received, heard, asks, watches, happens, run_from, run, start}
use Rattle.box_world.specs.Growing.{IsKept}
use Rattle.box_world.specs.Reached.{boxes_of, IsGood}
use Rattle.box_world.specs.Requesting.{RequestFits}
use Rattle.box_world.proofs.Lists.{of_both}
use Rattle.box_world.proofs.OneMore.{received_next}
use Rattle.box_world.proofs.Stepping.{advances, good_run, good_start, new_is}
use Rattle.box_world.proofs.Worlds.{good_advances, of_set}
use Rattle.box_world.specs.Spelled.{FitsChannel, FitsClient, FitsServer}
use Rattle.box_world.specs.SpelledWorlds.{FitsPacket, IsStep}
use Rattle.box_world.specs.FrameLaws.{RunsFit}
use Rattle.box_world.proofs.Carried.{kept_in}
use Rattle.box_world.proofs.FittingClients.{clients_keep}
use Rattle.box_world.proofs.FittingFrames.{answers_have, date_word, pushes_have, warnings_have}
use Rattle.box_world.proofs.FittingServers.{posted_fits, servers_keep}

-- ---- what is kept along a run

-- what a request asks since, or of which channel
abbrev Asks : Request → Type 0
Asks (request_of.Difference pts qts date) = date < 2 ^ 31
Asks (request_of.Channel id pts) = IsLong id
Asks r = Unit {0}

-- a packet, of whose numbers each is b at most
abbrev Sent : ℕ → Packet → Type 0
Sent b (push p) = FitsPush p
Sent b (request k n) = (n.number ≤ b) × Asks n.request
Sent b (reply k n r s) = (n ≤ b) × FitsReply r

abbrev AllSent : ℕ → List Packet → Type 0
AllSent b ms = (m : ℕ) (p : Packet) → slice_get ms m ≡ Some p → Sent b p

abbrev AllClients : List ClientState → Type 0
AllClients cs = (k : ℕ) (c : ClientState) → slice_get cs k ≡ Some c → FitsClient c

record Keeps (w : World) : Type 0 where
  sound : IsSound w.server
  server : FitsServer w.server
  clients : AllClients w.clients
  low : (k : ℕ) (c : ClientState) → slice_get w.clients k ≡ Some c → c.next ≤ 1 + length w.pool
  pool : AllSent (length w.pool) w.pool

sent_more : (a b : ℕ) (p : Packet) → a ≤ b → Sent a p → Sent b p
sent_more a b (push p) le s = s
sent_more a b (request k n) le s = let low = s.0 in (omega (arith, low, le), s.1)
sent_more a b (reply k n r m) le s = let low = s.0 in (omega (arith, low, le), s.1)

-- packets after those that were sent
all_sent : (ms ns : List Packet) → AllSent (length ms) ms → ((i : ℕ) (p : Packet) → slice_get ns i ≡ Some p → Sent (length (ms ++ ns)) p) → AllSent (length (ms ++ ns)) (ms ++ ns)
all_sent ms ns old new m p is = elim (of_both ms ns m p is) [
  | inl q ↦ let long = length-append ms ns in sent_more (length ms) (length (ms ++ ns)) p (omega (arith, long)) (old m p q)
  | inr q ↦ new q.0 p q.1
]

only : (p q : Packet) (i : ℕ) → slice_get (p ∷ []) i ≡ Some q → p ≡ q
only p q i is = one i is
  where
    some_is : (x y : Packet) → Some x ≡ Some y → x ≡ y
    some_is x y e = cc

    one : (j : ℕ) → slice_get (p ∷ []) j ≡ Some q → p ≡ q
    one zero e = some_is p q e
    one (suc j) e = absurd cc

low_more : (w : World) (ns : List Packet) → Keeps w → (k : ℕ) (c : ClientState) → slice_get w.clients k ≡ Some c → c.next ≤ 1 + length (w.pool ++ ns)
low_more w ns h k c is = let low = h.low k c is in let long = length-append w.pool ns in omega (arith, low, long)

one_sent : (w : World) (p : Packet) → Keeps w → Sent (length (w.pool ++ p ∷ [])) p → AllSent (length (w.pool ++ p ∷ [])) (w.pool ++ p ∷ [])
one_sent w p h s = all_sent w.pool (p ∷ []) h.pool (λ i q is. subst (Sent (length (w.pool ++ p ∷ []))) (only p q i is) s)

-- ---- the server

keeps_post : (w : World) (random_id : ℤ) (ps : List Post) (r : Option Receipt) (c : Option PostFault) → post_cause w.server ps ≡ c → All FitsPost ps → Keeps w → Keeps (post_by w random_id ps r c)
keeps_post w random_id ps (Some r) c is all h = h
keeps_post w random_id ps None (Some c) is all h = h
keeps_post w random_id ps None None is all h =
    let p : Packet = push (push_of w.server ps) in
    record {
      sound = posted_sound w.server random_id ps h.sound is;
      server = posted_fits w.server random_id ps h.server h.sound all is;
      clients = h.clients;
      low = low_more w (p ∷ []) h;
      pool = one_sent w p h (pushes_have w.server ps h.sound all is);
    }

keeps_date : (w : World) (date : ℕ) → date < 2 ^ 31 → Keeps w → Keeps (record w { server = dated_at w.server date })
keeps_date w date low h = record { sound = dated_sound w.server date h.sound low; server = servers_keep.date w.server date h.server; clients = h.clients; low = h.low; pool = h.pool }

keeps_sent : (w : World) (p : Packet) → Keeps w → Sent (length (w.pool ++ p ∷ [])) p → Keeps (record w { pool = w.pool ++ p ∷ [] })
keeps_sent w p h s = record { sound = h.sound; server = h.server; clients = h.clients; low = low_more w (p ∷ []) h; pool = one_sent w p h s }

keeps_served : (w : World) (m : ℕ) (o : Option Packet) → slice_get w.pool m ≡ o → Keeps w → Keeps (served w o)
keeps_served w m None at h = h
keeps_served w m (Some (push p)) at h = h
keeps_served w m (Some (request k n)) at h =
    let asked = (h.pool m (request k n) at).0 in
    let p : Packet = reply k n.number (answer w.server n.request) w.server in
    let long = length-append w.pool (p ∷ []) in
    keeps_sent w p h (omega (arith, asked, long), (answers_have w.server 0 n.request h.server h.sound (omega arith)).1)
keeps_served w m (Some (reply k n r s)) at h = h

-- ---- clients

keeps_one : (w : World) (k : ℕ) (d : ClientState) → Keeps w → FitsClient d → d.next ≤ 1 + length w.pool → Keeps (record w { clients = set w.clients k d })
keeps_one w k d h fits low = record {
  sound = h.sound;
  server = h.server;
  clients = of_set FitsClient w.clients k d h.clients fits;
  low = of_set (λ (c : ClientState). c.next ≤ 1 + length w.pool) w.clients k d h.low low;
  pool = h.pool;
}

after_by : (c : ClientState) (n : ℕ) (r : Reply) (o : Outcome) → replied c n r ≡ o → FitsClient c → FitsReply r → FitsClient (after_reply c o)
after_by c n r ignored is h f = h
after_by c n r (refuses cause) is h f = h
after_by c n r (becomes d) is h f = clients_keep.reply c n r d h f is

either_fits : (b : Bool) (c d : ClientState) → FitsClient c → FitsClient d → FitsClient (cond b d c)
either_fits true c d x y = y
either_fits false c d x y = x

received_fits : (b k : ℕ) (c : ClientState) (p : Packet) → FitsClient c → Sent b p → FitsClient (received k c p)
received_fits b k c (push p) h s = clients_keep.push c p h s
received_fits b k c (request j n) h s = h
received_fits b k c (reply j n r m) h s = either_fits (eqb j k) c (after_reply c (replied c n r)) h (after_by c n r (replied c n r) refl h s.1)

keeps_heard : (w : World) (k m : ℕ) (o : Option ClientState) (p : Option Packet) → slice_get w.clients k ≡ o → slice_get w.pool m ≡ p → ((c : ClientState) (q : Packet) → (received k c q).next ≡ c.next) → Keeps w → Keeps (heard w k o p)
keeps_heard w k m None p at is same h = h
keeps_heard w k m (Some c) None at is same h = h
keeps_heard w k m (Some c) (Some p) at is same h =
    let e = same c p in
    let low = h.low k c at in
    keeps_one w k (received k c p) h (received_fits (length w.pool) k c p (h.clients k c at) (h.pool m p is)) (omega (arith, e, low))

keeps_steps : (w : World) (k : ℕ) (f : ClientState → ClientState) (o : Option ClientState) → slice_get w.clients k ≡ o → ((c : ClientState) → (f c).next ≡ c.next) → ((c : ClientState) → FitsClient c → FitsClient (f c)) → Keeps w → Keeps (client_steps w k f o)
keeps_steps w k f None at same law h = h
keeps_steps w k f (Some c) at same law h = let e = same c in let low = h.low k c at in keeps_one w k (f c) h (law c (h.clients k c at)) (omega (arith, e, low))

-- ---- asks

asks_over : (b : Bool) (n : ℕ) (c : ChannelState) (t u : Ticked) → IsLong c.id → All (λ a. Asks a.request) t.asks → All (λ a. Asks a.request) u.asks → All (λ a. Asks a.request) (cond b (and_asks n c t) (and_waits c u)).asks
asks_over true n c t u long x y = All-cons (λ (a : Numbered). Asks a.request) (ask_of c n) t.asks long x
asks_over false n c t u long x y = y

channels_ask : (n : ℕ) (cs : List ChannelState) → All FitsChannel cs → All (λ a. Asks a.request) (ticked n cs).asks
channels_ask n [] all = All-nil (λ (a : Numbered). Asks a.request)
channels_ask n (c ∷ cs) all =
    let one : FitsChannel c = All-head FitsChannel c cs all in
    let rest = All-tail FitsChannel c cs all in
    asks_over (channel_is_due c) n c (ticked (n + 1) cs) (ticked n cs) one.id (channels_ask (n + 1) cs rest) (channels_ask n cs rest)

group_ask : (b : Bool) (c : ClientState) → c.settings.date < 2 ^ 31 → FitsClient c → All (λ a. Asks a.request) (channels_ticked (cond b (record { client = group_asks c; asks = difference_of c ∷ [] }) (record { client = c; asks = [] }))).asks
group_ask true c low h = All-cons (λ (a : Numbered). Asks a.request) (difference_of c) (ticked (c.next + 1) c.channels).asks low (channels_ask (c.next + 1) c.channels h.channels)
group_ask false c low h = channels_ask c.next c.channels h.channels

-- each request of numbered ones has a number below the next
sent_asks : (b k n : ℕ) (xs : List Numbered) → AreNumbered n xs → All (λ a. Asks a.request) xs → n + length xs ≤ 1 + b → (i : ℕ) (p : Packet) → slice_get (each (request k) xs) i ≡ Some p → Sent b p
sent_asks b k n [] num all le i p is = absurd (no_some p is)
  where
    no_some : (x : Packet) → None ≡ Some x → ⊥
    no_some x e = cc
sent_asks b k n (a ∷ xs) num all le zero p is =
    let first = num.0 in
    subst (Sent b) (some_is (request k a) p is) (omega (arith, first, le), All-head (λ (x : Numbered). Asks x.request) a xs all)
  where
    some_is : (x y : Packet) → Some x ≡ Some y → x ≡ y
    some_is x y e = cc
sent_asks b k n (a ∷ xs) num all le (suc i) p is = sent_asks b k (n + 1) xs num.1 (All-tail (λ (x : Numbered). Asks x.request) a xs all) (omega (arith, le)) i p is

keeps_asks : (w : World) (k : ℕ) (o : Option ClientState) → slice_get w.clients k ≡ o → ((c : ClientState) → slice_get w.clients k ≡ Some c → c.settings.date ≤ w.server.date) → Keeps w → Keeps (asks w k o)
keeps_asks w k None at dates h = h
keeps_asks w k (Some c) at dates h =
    let xs : List Numbered = (ticks c).asks in
    let ns : List Packet = each (request k) xs in
    let more : length ns ≡ length xs = length-map xs (request k) in
    let long = length-append w.pool ns in
    let next = next_past c in
    let low = h.low k c at in
    let past = dates c at in
    let sound = h.sound.date in
    let fits : FitsClient c = h.clients k c at in
    let all = group_ask (group_is_due c) c (omega (arith, past, sound)) fits in
    record {
      sound = h.sound;
      server = h.server;
      clients = of_set FitsClient w.clients k (ticks c).client h.clients (clients_keep.tick c fits);
      low = of_set (λ (d : ClientState). d.next ≤ 1 + length (w.pool ++ ns)) w.clients k (ticks c).client (low_more w ns h) (omega (arith, more, long, next, low));
      pool = all_sent w.pool ns h.pool (sent_asks (length (w.pool ++ ns)) k c.next xs (asks_numbered c) all (omega (arith, more, long, low)));
    }

-- ---- steps

date_low : (date : ℕ) → IsStep (step.Date date) → date < 2 ^ 31
date_low date s =
    let clear = clear_of StepRoot (step_tree (step.Date date)) s.clear in
    let low = date_is (number date) (clear_here StepRoot STEP_DATE (values_of (number date ∷ [])) clear Date refl) in
    let same = again date in
    omega (arith, low, same)

keeps_happens : (w : World) (s : Step) → IsGood w → IsStep s → ((k : ℕ) (c : ClientState) (q : Packet) → (received k c q).next ≡ c.next) → Keeps w → Keeps (happens w s)
keeps_happens w (step.Post random_id ps) g s same h = keeps_post w random_id ps (map.get w.server.receipts random_id) (post_cause w.server ps) refl s.fits.1.1 h
keeps_happens w (step.Date date) g s same h = keeps_date w date (date_low date s) h
keeps_happens w (step.Serve m) g s same h = keeps_served w m (slice_get w.pool m) refl h
keeps_happens w (step.Hear k m) g s same h = keeps_heard w k m (slice_get w.clients k) (slice_get w.pool m) refl refl (same k) h
keeps_happens w (step.Tick k) g s same h = keeps_asks w k (slice_get w.clients k) refl (λ c at. (g.agrees k c at).settings.past) h
keeps_happens w (step.Wake k) g s same h = keeps_steps w k wakes (slice_get w.clients k) refl (λ c. refl) clients_keep.wake h
keeps_happens w (step.Watch k id) g s same h = keeps_steps w k (watches id) (slice_get w.clients k) refl (λ c. refl) (λ c f. clients_keep.watch c id f s.fits.1) h
keeps_happens w (step.Restart k) g s same h = keeps_steps w k restarted (slice_get w.clients k) refl (λ c. refl) clients_keep.restart h
keeps_happens w step.TooLong g s same h = keeps_sent w _ h tt
keeps_happens w (step.ChannelTooLong id) g s same h = keeps_sent w _ h (warnings_have id w.server.date s.fits (date_word w.server.date h.sound.date)).1

keeps_from : (w : World) (ss : List Step) → IsGood w → All IsStep ss → ((k : ℕ) (c : ClientState) (q : Packet) → (received k c q).next ≡ c.next) → Keeps w → Keeps (run_from w ss)
keeps_from w [] g all same h = h
keeps_from w (s ∷ ss) g all same h =
    keeps_from (happens w s) ss (good_advances w (happens w s) g (advances changed_overlays w s g)) (All-tail IsStep s ss all) same (keeps_happens w s g (All-head IsStep s ss all) same h)

no_packet : (m : ℕ) (p : Packet) → slice_get (start 0).pool m ≡ Some p → Sent 0 p
no_packet m p is = absurd cc

keeps_start : (n : ℕ) → Keeps (start n)
keeps_start n = record {
  sound = sound_new;
  server = servers_keep.new;
  clients = λ k c is. subst FitsClient (sym (new_is n k c is)) clients_keep.new;
  low = λ k c is. subst (λ (d : ClientState). d.next ≤ 1) (sym (new_is n k c is)) (omega arith);
  pool = no_packet;
}

-- ---- packets

position_is : (p : ℕ) → p ≤ MAX_END → IsInt (pos p)
position_is p le = (p, omega (arith, le), sym (to_z_pos w32 p (omega (arith, le))))

boundary_low : (box : List EventView) (p : ℕ) → IsBoundary box p → ending box ≤ MAX_END → p ≤ MAX_END
boundary_low box p b limit =
    let whole : ending box ≡ ending b.prefix + ending b.rest = ap ending b.whole ∙ ending-append b.prefix b.rest in
    let stop = b.stop in
    omega (arith, whole, stop, limit)

whole_low : (s : ServerState) (id : ℤ) (whole : List EventView) → IsSound s → IsKept whole (channel_in s.channels id) → ending whole ≤ MAX_END
whole_low s id whole h k =
    let all : ending whole ≡ ending k.gone + ending (channel_in s.channels id).events = ap ending k.parts ∙ ending-append k.gone (channel_in s.channels id).events in
    let first = k.first in
    let limit = (kept_in s.channels id h.channels h.events.channels).limit in
    omega (arith, all, first, limit)

call_fits : (w : World) (k : ℕ) (n : Numbered) (r : Request) (seq b : ℕ) → n.request ≡ r → IsGood w → IsSound w.server → RequestFits w.server (boxes_of w) r seq → n.number ≤ b → b < 2 ^ 32 → Asks r → FitsCall (record { number = n.number; request = r })
call_fits w k n request_of.State seq b is g h fits le lt asked = absurd fits
call_fits w k n (request_of.Difference pts qts date) seq b is g h (p, q, p_is, q_is, group) le lt asked =
    (omega (arith, le, lt), (subst IsInt (sym p_is) (position_is p (boundary_low w.server.common p group.common h.common.1)), subst IsInt (sym q_is) (position_is q (boundary_low w.server.secret q group.secret h.secret.1)), date_word date asked))
call_fits w k n (request_of.Channel id pts) seq b is g h (p, p_is, boundary) le lt asked =
    (omega (arith, le, lt), (asked, subst IsInt (sym p_is) (position_is p (boundary_low (boxes_of w id) p boundary (whole_low w.server id (boxes_of w id) h (g.ledger.kept id))))))
call_fits w k n (request_of.Post random_id posts) seq b is g h fits le lt asked = absurd fits

packet_fits : (w : World) (m : ℕ) (p : Packet) → slice_get w.pool m ≡ Some p → IsGood w → Keeps w → length w.pool < 2 ^ 32 → FitsPacket p
packet_fits w m (push p) at g h lt = h.pool m (push p) at
packet_fits w m (request k n) at g h lt =
    let sent = h.pool m (request k n) at in
    let was = g.pool m (request k n) at in
    call_fits w k n n.request was.seq (length w.pool) refl g h.sound was.fits sent.0 lt sent.1
packet_fits w m (reply k n r s) at g h lt = let sent = h.pool m (reply k n r s) at in let low = sent.0 in (omega (arith, low, lt), sent.1)

pub runs_fit : RunsFit
runs_fit n ss all lt =
    let w : World = run n ss in
    let g : IsGood w = good_run changed_overlays n ss in
    let h : Keeps w = keeps_from (start n) ss (good_start n) all received_next (keeps_start n) in
    record { sound = h.sound; server = h.server; clients = h.clients; pool = λ m p at. packet_fits w m p at g h lt }
