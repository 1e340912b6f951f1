-- A world's numbers follow from numbers alone.
use Rattle.std.proofs.Common.{◌≡◌, ℕ, zero, suc, ◌+◌, ℤ, List, [], ◌∷◌, ◌++◌, map as each, set, Bool, true, false, cond, eqb, ltb, is_some, Option, Some, None, refl, sym, ap, ap₂, ◌∙◌, subst}
use Rattle.std.specs.Prelude.{slice_get}
use Rattle.std.specs.Option.{option_map}
use Rattle.std.specs.FinMap as map
use Rattle.std.proofs.Math.Seq.{map-set}
use Rattle.std.proofs.lemmas.List.{length-map}
use Rattle.std.proofs.lemmas.Option.{slice_get-map}
use Rattle.box_events.specs.declared.limits.TheConstants.{MAX_CHANNELS}
use Rattle.box_events.specs.declared.positions.Receipt.{Receipt}
use Rattle.box_events.specs.declared.requests.Numbered.{Numbered}
use Rattle.box_events.specs.declared.requests.Post.{Post}
use Rattle.box_events.specs.declared.replies.Reply.{Reply}
use Rattle.box_events.specs.declared.steps.Step.{Step}
use Rattle.box_events.specs.declared.steps.Step.TheVariants as step
use Rattle.channel_box.specs.States.{ChannelState, first, has_id}
use Rattle.channel_box.specs.Steps.{is_due, channel_is_due, ticked, ask_of, may_watch}
use Rattle.box_server.specs.declared.fault.PostFault.{PostFault}
use Rattle.box_server.specs.Servers.{ServerState}
use Rattle.box_server.specs.Refusing.{post_cause}
use Rattle.box_client.specs.States.{ClientState}
use Rattle.box_client.specs.Replies.{Outcome, ignored, refuses, becomes, replied}
use Rattle.box_client.specs.Asking.{group_is_due, difference_of, group_ticked, ticks, wakes, restarted}
use Rattle.box_client.specs.Laws.{HasNumbers}
use Rattle.box_client.specs.Numbers.{ChannelNumbers, channel_numbers, ClientNumbers, client_numbers, n_first, n_has_id, n_group_asks, n_group_ticked, n_replied, n_wakes, n_client_restarted, n_watched_if}
use Rattle.box_client.proofs.Mapped.{len_mapped}
use Rattle.box_client.proofs.NumberSteps.{pushed_numbers, replied_numbers, ticks_numbers, wakes_numbers, restarted_numbers, watched_numbers, new_numbers}
use Rattle.box_world.specs.Worlds.{Packet, push, request, reply, World, client_steps, post_by, served, after_reply, received, heard, asks, watches, happens, run_from, new_clients, start}
use Rattle.box_world.specs.NumberWorlds.{n_channel_requests, n_requests, n_may_watch, n_watches, NumberWorld, numbers_of, n_post_by, n_served, n_received, n_heard, n_asks, n_steps, n_happens, n_run_from, n_new_clients, NumbersAlone}
use Rattle.box_world.specs.Agreeing.{Boxes, Reaches}
use Rattle.box_world.specs.Reached.{IsGood, boxes_of}
use Rattle.box_world.proofs.Replying.{Carries, Told, stale, takes}
use Rattle.box_world.proofs.Stepping.{advances, good_start, reply_told, same_number}
use Rattle.box_world.proofs.Worlds.{good_advances}
use Rattle.box_client.proofs.NumberSteps.{to_none, due_numbers}

-- ---- what a client asks

abbrev all_numbers : List ChannelState → List ChannelNumbers
all_numbers = each channel_numbers

requests_over : (n : ℕ) (d : ChannelState) (ds : List ChannelState) (b : Bool) → channel_is_due d ≡ b → ((m : ℕ) → (ticked m ds).asks ≡ n_channel_requests m (all_numbers ds))
    → (ticked n (d ∷ ds)).asks ≡ cond b (ask_of d n ∷ n_channel_requests (n + 1) (all_numbers ds)) (n_channel_requests n (all_numbers ds))
requests_over n d ds true e rest = rw e (ap (λ (l : List Numbered). ask_of d n ∷ l) (rest (n + 1)))
requests_over n d ds false e rest = rw e (rest n)

channel_requests : (ds : List ChannelState) (n : ℕ) → (ticked n ds).asks ≡ n_channel_requests n (all_numbers ds)
channel_requests [] n = refl
channel_requests (d ∷ ds) n =
    requests_over n d ds (channel_is_due d) refl (channel_requests ds)
    ∙ ap (λ (k : ℕ). cond (is_due d.flag k d.lane.mode) (ask_of d n ∷ n_channel_requests (n + 1) (all_numbers ds)) (n_channel_requests n (all_numbers ds))) (sym (len_mapped to_none d.lane.held))

requests_by : (c : ClientState) (b : Bool) → group_is_due c ≡ b → (group_ticked c).asks ≡ cond b (difference_of c ∷ []) []
requests_by c true e = rw e refl
requests_by c false e = rw e refl

ticked_by : (c : ClientState) (b : Bool) → group_is_due c ≡ b → client_numbers (group_ticked c).client ≡ cond b (n_group_asks (client_numbers c)) (client_numbers c)
ticked_by c true e = rw e refl
ticked_by c false e = rw e refl

pub requests_numbers : (c : ClientState) → (ticks c).asks ≡ n_requests (client_numbers c)
requests_numbers c =
    let g : ClientState = (group_ticked c).client in
    let n : ClientNumbers = client_numbers c in
    let group : client_numbers g ≡ n_group_ticked n = ticked_by c (group_is_due c) refl ∙ ap (λ (b : Bool). cond b (n_group_asks n) n) (due_numbers c) in
    ap₂ (λ (l r : List Numbered). l ++ r)
    (requests_by c (group_is_due c) refl ∙ ap (λ (b : Bool). cond b (difference_of c ∷ []) []) (due_numbers c))
    (channel_requests g.channels g.next ∙ ap (λ (x : ClientNumbers). n_channel_requests x.next x.channels) group)

-- ---- watching

first_over : (id : ℤ) (d : ChannelState) (ds : List ChannelState) (b : Bool) → has_id id d ≡ b → is_some (first (has_id id) ds) ≡ is_some (n_first (n_has_id id) (all_numbers ds))
    → is_some (first (has_id id) (d ∷ ds)) ≡ is_some (n_first (n_has_id id) (all_numbers (d ∷ ds)))
first_over id d ds true e rest = rw e refl
first_over id d ds false e rest = rw e rest

first_numbers : (id : ℤ) (ds : List ChannelState) → is_some (first (has_id id) ds) ≡ is_some (n_first (n_has_id id) (all_numbers ds))
first_numbers id [] = refl
first_numbers id (d ∷ ds) = first_over id d ds (has_id id d) refl (first_numbers id ds)

may_numbers : (ds : List ChannelState) (id : ℤ) → may_watch ds id ≡ n_may_watch (all_numbers ds) id
may_numbers ds id = ap₂ (λ (b : Bool) (n : ℕ). cond b false (ltb n MAX_CHANNELS)) (first_numbers id ds) (sym (length-map ds channel_numbers))

watches_numbers : (id : ℤ) (c : ClientState) → client_numbers (watches id c) ≡ n_watches id (client_numbers c)
watches_numbers id c = watched_numbers c id ∙ ap (λ (b : Bool). n_watched_if b (client_numbers c) id) (may_numbers c.channels id)

-- ---- a client goes on

goes_numbers : (w : World) (k : ℕ) (c : ClientState) (n : ClientNumbers) → client_numbers c ≡ n → each client_numbers (set w.clients k c) ≡ set (each client_numbers w.clients) k n
goes_numbers w k c n e = map-set client_numbers w.clients k c ∙ ap (set (each client_numbers w.clients) k) e

with_clients : (w : World) (pool : List Packet) (cs : List ClientState) (ns : List ClientNumbers) → each client_numbers cs ≡ ns
    → numbers_of (record { server = w.server; clients = cs; pool = pool }) ≡ record { server = w.server; clients = ns; pool = pool }
with_clients w pool cs ns e = ap (λ (l : List ClientNumbers). record { server = w.server; clients = l; pool = pool }) e

steps_numbers : (w : World) (k : ℕ) (f : ClientState → ClientState) (g : ClientNumbers → ClientNumbers) → ((c : ClientState) → client_numbers (f c) ≡ g (client_numbers c)) → (o : Option ClientState)
    → numbers_of (client_steps w k f o) ≡ n_steps (numbers_of w) k g (option_map client_numbers o)
steps_numbers w k f g e None = refl
steps_numbers w k f g e (Some c) = with_clients w w.pool (set w.clients k (f c)) (set (each client_numbers w.clients) k (g (client_numbers c))) (goes_numbers w k (f c) (g (client_numbers c)) (e c))

after_numbers : (s : ServerState) (boxes : Boxes) (P : ClientState → Type 0) (c : ClientState) (n : ℕ) (r : Reply) (o : Outcome) → replied c n r ≡ o → Told s boxes c P o → HasNumbers c o (n_replied (client_numbers c) n r) → client_numbers (after_reply c o) ≡ n_replied (client_numbers c) n r
after_numbers s boxes P c n r ignored e t h = h
after_numbers s boxes P c n r (refuses cause) e (stale is) h = absurd (let w : refuses cause ≡ ignored = is in cc)
after_numbers s boxes P c n r (refuses cause) e (takes d is g past) h = absurd (let w : refuses cause ≡ becomes d = is in cc)
after_numbers s boxes P c n r (becomes d) e t h = h

reply_numbers : (carries : Carries) (w : World) (j k : ℕ) (c : ClientState) (n : ℕ) (r : Reply) (s : ServerState) (m : ℕ) (b : Bool) → eqb j k ≡ b → IsGood w → slice_get w.clients k ≡ Some c → slice_get w.pool m ≡ Some (reply j n r s)
    → client_numbers (cond b (after_reply c (replied c n r)) c) ≡ cond b (n_replied (client_numbers c) n r) (client_numbers c)
reply_numbers carries w j k c n r s m true e g at is =
    let own : slice_get w.pool m ≡ Some (reply k n r s) = subst (λ (i : ℕ). slice_get w.pool m ≡ Some (reply i n r s)) (same_number j k e) is in
    after_numbers w.server (boxes_of w) (Reaches s r) c n r (replied c n r) refl (reply_told carries w k c n r s g at (g.pool m (reply k n r s) own)) (replied_numbers c n r)
reply_numbers carries w j k c n r s m false e g at is = refl

received_numbers : (carries : Carries) (w : World) (k m : ℕ) (c : ClientState) (p : Packet) → IsGood w → slice_get w.clients k ≡ Some c → slice_get w.pool m ≡ Some p → client_numbers (received k c p) ≡ n_received k (client_numbers c) p
received_numbers carries w k m c (push p) g at is = pushed_numbers c p
received_numbers carries w k m c (request j n) g at is = refl
received_numbers carries w k m c (reply j n r s) g at is = reply_numbers carries w j k c n r s m (eqb j k) refl g at is

heard_numbers : (carries : Carries) (w : World) (k m : ℕ) (o : Option ClientState) (p : Option Packet) → slice_get w.clients k ≡ o → slice_get w.pool m ≡ p → IsGood w → numbers_of (heard w k o p) ≡ n_heard (numbers_of w) k (option_map client_numbers o) p
heard_numbers carries w k m None p at is g = refl
heard_numbers carries w k m (Some c) None at is g = refl
heard_numbers carries w k m (Some c) (Some p) at is g =
    with_clients w w.pool (set w.clients k (received k c p)) (set (each client_numbers w.clients) k (n_received k (client_numbers c) p)) (goes_numbers w k (received k c p) (n_received k (client_numbers c) p) (received_numbers carries w k m c p g at is))

asks_numbers : (w : World) (k : ℕ) (o : Option ClientState) → numbers_of (asks w k o) ≡ n_asks (numbers_of w) k (option_map client_numbers o)
asks_numbers w k None = refl
asks_numbers w k (Some c) =
    ap₂ (λ (cs : List ClientNumbers) (qs : List Numbered). record { server = w.server; clients = cs; pool = w.pool ++ each (request k) qs }) (goes_numbers w k (ticks c).client _ (ticks_numbers c)) (requests_numbers c)

post_numbers : (w : World) (random_id : ℤ) (ps : List Post) (r : Option Receipt) (cause : Option PostFault) → numbers_of (post_by w random_id ps r cause) ≡ n_post_by (numbers_of w) random_id ps r cause
post_numbers w random_id ps (Some r) cause = refl
post_numbers w random_id ps None (Some cause) = refl
post_numbers w random_id ps None None = refl

served_numbers : (w : World) (o : Option Packet) → numbers_of (served w o) ≡ n_served (numbers_of w) o
served_numbers w None = refl
served_numbers w (Some (push p)) = refl
served_numbers w (Some (request k n)) = refl
served_numbers w (Some (reply k n r s)) = refl

-- ---- steps

found : (w : World) (k : ℕ) → slice_get (each client_numbers w.clients) k ≡ option_map client_numbers (slice_get w.clients k)
found w k = slice_get-map client_numbers w.clients k

happens_numbers : (carries : Carries) (w : World) (s : Step) → IsGood w → numbers_of (happens w s) ≡ n_happens (numbers_of w) s
happens_numbers carries w (step.Post random_id ps) g = post_numbers w random_id ps (map.get w.server.receipts random_id) (post_cause w.server ps)
happens_numbers carries w (step.Date date) g = refl
happens_numbers carries w (step.Serve m) g = served_numbers w (slice_get w.pool m)
happens_numbers carries w (step.Hear k m) g =
    heard_numbers carries w k m (slice_get w.clients k) (slice_get w.pool m) refl refl g ∙ ap (λ (o : Option ClientNumbers). n_heard (numbers_of w) k o (slice_get w.pool m)) (sym (found w k))
happens_numbers carries w (step.Tick k) g = asks_numbers w k (slice_get w.clients k) ∙ ap (n_asks (numbers_of w) k) (sym (found w k))
happens_numbers carries w (step.Wake k) g = steps_numbers w k wakes n_wakes wakes_numbers (slice_get w.clients k) ∙ ap (n_steps (numbers_of w) k n_wakes) (sym (found w k))
happens_numbers carries w (step.Watch k id) g = steps_numbers w k (watches id) (n_watches id) (watches_numbers id) (slice_get w.clients k) ∙ ap (n_steps (numbers_of w) k (n_watches id)) (sym (found w k))
happens_numbers carries w (step.Restart k) g = steps_numbers w k restarted n_client_restarted restarted_numbers (slice_get w.clients k) ∙ ap (n_steps (numbers_of w) k n_client_restarted) (sym (found w k))
happens_numbers carries w step.TooLong g = refl
happens_numbers carries w (step.ChannelTooLong id) g = refl

from_numbers : (carries : Carries) (w : World) (ss : List Step) → IsGood w → numbers_of (run_from w ss) ≡ n_run_from (numbers_of w) ss
from_numbers carries w [] g = refl
from_numbers carries w (s ∷ ss) g =
    from_numbers carries (happens w s) ss (good_advances w (happens w s) g (advances carries w s g)) ∙ ap (λ (v : NumberWorld). n_run_from v ss) (happens_numbers carries w s g)

start_numbers : (n : ℕ) → each client_numbers (new_clients n) ≡ n_new_clients n
start_numbers zero = refl
start_numbers (suc n) = ap₂ (λ (c : ClientNumbers) (cs : List ClientNumbers). c ∷ cs) new_numbers (start_numbers n)

pub numbers_follow : Carries → NumbersAlone
numbers_follow carries n ss =
    from_numbers carries (start n) ss (good_start n) ∙ ap (λ (v : NumberWorld). n_run_from v ss) (with_clients (start n) [] (new_clients n) (n_new_clients n) (start_numbers n))
