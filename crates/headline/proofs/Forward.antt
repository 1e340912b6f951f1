-- No step moves a restart of the common and the secret box, and no position falls.
use Rattle.std.proofs.Common.{◌≡◌, ◌⊎◌, inl, inr, ℕ, zero, suc, ◌-◌, ◌<◌, ◌≤◌, ℤ, pos, List, [], ◌∷◌, ◌++◌, length, set, Bool, true, false, cond, eqb, is_some, ltb, Option, Some, None, Result, Ok, Err, refl, sym, ap, ◌∙◌, subst, arith}
use Rattle.std.specs.Prelude.{◌&&◌, slice_get}
use Rattle.std.specs.FinMap as map
use Rattle.std.proofs.lemmas.Option.{none-some, same_Some}
use Rattle.box_events.specs.Events.{EventView, added, count_of}
use Rattle.box_events.specs.declared.positions.Receipt.{Receipt}
use Rattle.box_events.specs.declared.replies.Reply.{Reply}
use Rattle.box_events.specs.declared.replies.Reply.TheVariants as reply_of
use Rattle.box_events.specs.declared.requests.Post.{Post}
use Rattle.box_events.specs.declared.requests.Request.TheVariants.{Channel as Channel_of}
use Rattle.box_events.specs.declared.settings.Setting.{Setting}
use Rattle.box_events.specs.declared.steps.Step.{Step}
use Rattle.box_events.specs.declared.steps.Step.TheVariants as step
use Rattle.box_events.specs.declared.updates.Push.{Push}
use Rattle.box_events.specs.declared.updates.Push.TheVariants.{TooLong, Container}
use Rattle.box_events.specs.declared.updates.Update.{Update}
use Rattle.box_events.specs.declared.updates.Update.TheVariants.{Common, Secret, Channel, ChannelTooLong, Setting as SettingUpdate}
use Rattle.box_events.specs.Weaves.{woven_of}
use Rattle.box_events.specs.declared.difference_fault.WeaveFault.{WeaveFault}
use Rattle.pts_machine.specs.States.{LaneState}
use Rattle.pts_machine.specs.Steps.{extend, forget, settle}
use Rattle.pts_machine.proofs.Moves.{hear_restart}
use Rattle.channel_box.specs.States.{ChannelState, first}
use Rattle.channel_box.specs.Steps.{asks_number, is_asking}
use Rattle.box_server.specs.Answers.{answer, channel_difference}
use Rattle.box_server.specs.Refusing.{post_cause}
use Rattle.box_server.specs.Servers.{ServerState, channel_in}
use Rattle.box_server.specs.declared.fault.PostFault.{PostFault}
use Rattle.box_server.proofs.Carrying.{changed_overlays}
use Rattle.box_client.specs.declared.received.Received.{Received}
use Rattle.box_client.specs.Asking as asking
use Rattle.box_client.specs.Asking.{group_is_due, group_ticked, restarted, ticks, wakes}
use Rattle.box_client.specs.Pushes.{all_updated, pack_heard, pushed, settings_in, updated}
use Rattle.box_client.specs.Replies.{Outcome, ignored, channel_replied, group_done, group_replied, group_taken, group_woven, nothing_new, replied}
use Rattle.box_client.specs.States.{ClientState, new_client}
use Rattle.box_world.specs.Agreeing.{Agrees, Boxes, ChannelAgrees, IsPast}
use Rattle.box_world.specs.Awaiting.{ChannelAsksBy}
use Rattle.box_world.specs.Growing.{IsLedger}
use Rattle.box_world.specs.Pushing.{PushLies}
use Rattle.box_world.specs.Reached.{PacketFits, boxes_of, IsGood}
use Rattle.box_world.specs.Worlds.{Packet, push, request, reply, World, after_reply, asks, client_steps, happens, heard, new_clients, post_by, received, run, run_from, served, start, watches}
use Rattle.box_world.proofs.ChannelReplying.{TakenFrom, channel_taken, first_has, inside_of, is_asked}
use Rattle.box_world.proofs.OneMore.{clients_stay, runs_go_on}
use Rattle.box_world.proofs.Stepping.{good_run, same_number}
use Rattle.box_world.proofs.Telling.{channel_answer_is, channel_fits}
use Rattle.headline.specs.Forward.{ChannelsGoOn, GoesForward, IsWhole}
use Rattle.headline.specs.Boxes.{ClientsGoForward}
use Rattle.headline.proofs.Channels.{HonestTo, forgotten_up, pushed_stands, replied_answered, ticked_index, watched_stands, woken_stands}
use Rattle.headline.proofs.Upward.{Up, after_of, same_unasked, up_pushed, up_replied, up_ticks}

-- ---- restarts

pub record Fixed (c d : ClientState) : Type 0 where
  pub common : d.common.restart ≡ c.common.restart
  pub secret : d.secret.restart ≡ c.secret.restart

fixed_none : (c : ClientState) → Fixed c c
fixed_none c = record { common = refl; secret = refl }

fixed_then : (b c d : ClientState) → Fixed b c → Fixed c d → Fixed b d
fixed_then b c d g h = record { common = h.common ∙ g.common; secret = h.secret ∙ g.secret }

fixed_updated : (c : ClientState) (u : Update) → Fixed c (updated c u)
fixed_updated c (Common event pts) = record { common = hear_restart c.common (pts - count_of event) pts event; secret = refl }
fixed_updated c (Secret body qts) = record { common = refl; secret = hear_restart c.secret (qts - 1) qts (added body) }
fixed_updated c (Channel id event pts) = record { common = refl; secret = refl }
fixed_updated c (ChannelTooLong id) = record { common = refl; secret = refl }
fixed_updated c (SettingUpdate x) = fixed_none c

fixed_updates : (c : ClientState) (us : List Update) → Fixed c (all_updated c us)
fixed_updates c [] = fixed_none c
fixed_updates c (u ∷ us) = fixed_then c (updated c u) (all_updated (updated c u) us) (fixed_updated c u) (fixed_updates (updated c u) us)

fixed_pack : (b : Bool) (c : ClientState) (seq_start seq date : ℕ) (xs : List Setting) → Fixed c (pack_heard b c seq_start seq date xs)
fixed_pack true c seq_start seq date xs = record { common = refl; secret = refl }
fixed_pack false c seq_start seq date xs = fixed_none c

fixed_pushed : (c : ClientState) (p : Push) → Fixed c (pushed c p)
fixed_pushed c TooLong = record { common = refl; secret = refl }
fixed_pushed c (Container us date seq_start seq) =
    fixed_then c (all_updated c us) (pack_heard (ltb 0 seq) (all_updated c us) seq_start seq date (settings_in us)) (fixed_updates c us) (fixed_pack (ltb 0 seq) (all_updated c us) seq_start seq date (settings_in us))

extend_restart : (t : LaneState EventView) (xs : List EventView) (last : Bool) → (extend count_of t xs last).restart ≡ t.restart
unfolding extend settle
extend_restart t xs true = refl
extend_restart t xs false = refl

fixed_done : (last : Bool) (c : ClientState) (b : Received) (xs ys : List EventView) → Fixed c (group_done last c b xs ys)
fixed_done true c b xs ys = record { common = extend_restart c.common xs true; secret = extend_restart c.secret ys true }
fixed_done false c b xs ys = record { common = extend_restart c.common xs false; secret = extend_restart c.secret ys false }

fixed_taken : (t : Bool) (c : ClientState) (b : Received) (xs ys : List EventView) → Fixed c (after_reply c (group_taken t c b xs ys))
fixed_taken true c b xs ys = fixed_none c
fixed_taken false c b xs ys = fixed_done b.last c b xs ys

fixed_woven : (c : ClientState) (b : Received) (o p : Result (List EventView) WeaveFault) → Fixed c (after_reply c (group_woven c b o p))
fixed_woven c b (Err cause) p = fixed_none c
fixed_woven c b (Ok xs) (Err cause) = fixed_none c
fixed_woven c b (Ok xs) (Ok ys) = fixed_taken (b.last && ltb b.state.seq c.settings.at) c b xs ys

fixed_group : (c : ClientState) (v : Reply) → Fixed c (after_reply c (group_replied c v))
fixed_group c (reply_of.State state) = fixed_none c
fixed_group c (reply_of.Empty date seq) = let b : Received = nothing_new c date seq in fixed_woven c b (woven_of c.common.at b.state.pts b.news b.others) (woven_of c.secret.at b.state.qts b.secrets [])
fixed_group c (reply_of.Difference news secrets others settings state last) =
    let b : Received = record { news = news; secrets = secrets; others = others; settings = settings; state = state; last = last } in
    fixed_woven c b (woven_of c.common.at b.state.pts b.news b.others) (woven_of c.secret.at b.state.qts b.secrets [])
fixed_group c (reply_of.Channel r) = fixed_none c
fixed_group c (reply_of.Receipt r) = fixed_none c
fixed_group c (reply_of.Error code text) = fixed_none c

by_group : (b : Bool) (x y : Outcome) → b ≡ true → x ≡ cond b x y
by_group true x y e = refl
by_group false x y e = absurd (let w : false ≡ true = e in cc)

fixed_whom : (c : ClientState) (n : ℕ) (v : Reply) (b : Bool) → is_asking n c.common.mode ≡ b → Fixed c (after_reply c (replied c n v))
fixed_whom c n v true e = subst (λ (o : Outcome). Fixed c (after_reply c o)) (by_group (is_asking n c.common.mode) (group_replied c v) (cond (is_some (first (asks_number n) c.channels)) (channel_replied c n v) ignored) e) (fixed_group c v)
fixed_whom c n v false e = let same = same_unasked c n v e in record { common = ap (λ (t : LaneState EventView). t.restart) same.common; secret = ap (λ (t : LaneState EventView). t.restart) same.secret }

fixed_replied : (c : ClientState) (n : ℕ) (v : Reply) → Fixed c (after_reply c (replied c n v))
fixed_replied c n v = fixed_whom c n v (is_asking n c.common.mode) refl

fixed_ticked : (c : ClientState) (b : Bool) → group_is_due c ≡ b → Fixed c (group_ticked c).client
fixed_ticked c true e = rw e (record { common = refl; secret = refl })
fixed_ticked c false e = rw e (fixed_none c)

-- ---- forward

pub forward_of : (c d : ClientState) → Fixed c d → Up c d → ChannelsGoOn c.channels d.channels → GoesForward c d
forward_of c d f u g = record { common = (f.common, u.common); secret = (f.secret, u.secret); settings = u.settings; channels = g }

pub forward_none : (c : ClientState) → GoesForward c c
forward_none c = record { common = (refl, omega arith); secret = (refl, omega arith); settings = omega arith; channels = λ i e is. (e, is, refl, omega arith) }

pub forward_then : (b c d : ClientState) → GoesForward b c → GoesForward c d → GoesForward b d
forward_then b c d g h = record {
  common = (h.common.0 ∙ g.common.0, omega (arith, g.common.1, h.common.1));
  secret = (h.secret.0 ∙ g.secret.0, omega (arith, g.secret.1, h.secret.1));
  settings = omega (arith, g.settings, h.settings);
  channels = λ i e is.
      let one = g.channels i e is in
      let two = h.channels i one.0 one.1 in
      (two.0, two.1, two.2 ∙ one.2, omega (arith, one.3, two.3));
}

pub forward_pushed : (s : ServerState) (boxes : Boxes) (c : ClientState) (p : Push) → IsLedger s boxes → PushLies s boxes p → Agrees s boxes c → GoesForward c (pushed c p)
forward_pushed s boxes c p k lies a = forward_of c (pushed c p) (fixed_pushed c p) (up_pushed s boxes c p k lies a) (λ i e is. let t = pushed_stands s boxes c p i e k lies a is in (t.channel, t.is, t.id, t.up))

pub forward_replied : (s : ServerState) (boxes : Boxes) (c : ClientState) (n : ℕ) (v : Reply) (whole : Boxes) → IsLedger s boxes → Agrees s boxes c → HonestTo boxes c n v whole → GoesForward c (after_reply c (replied c n v))
forward_replied s boxes c n v whole k a honest =
    forward_of c (after_reply c (replied c n v)) (fixed_replied c n v) (up_replied c n v (after_of s boxes c k a)) (λ i e is. let t = replied_answered s boxes c n v whole k a honest i e is in (t.channel, t.is, t.id, t.up))

-- a tick of the group leaves the channels
pub group_index : (c : ClientState) (b : Bool) → group_is_due c ≡ b → (i : ℕ) (e : ChannelState) → slice_get c.channels i ≡ Some e → slice_get (group_ticked c).client.channels i ≡ Some e
group_index c true q i e is = rw q is
group_index c false q i e is = rw q is

pub forward_ticks : (c : ClientState) → GoesForward c (ticks c).client
forward_ticks c =
    let f = fixed_ticked c (group_is_due c) refl in
    let g : asking.Asked = group_ticked c in
    forward_of c (ticks c).client (record { common = f.common; secret = f.secret }) (up_ticks c)
    (λ i e is. let t = ticked_index g.client.channels g.client.next i e (group_index c (group_is_due c) refl i e is) in (t.channel, t.is, t.id, omega (arith, t.at)))

pub forward_wakes : (c : ClientState) → GoesForward c (wakes c)
forward_wakes c = record {
  common = (refl, omega arith);
  secret = (refl, omega arith);
  settings = omega arith;
  channels = λ i e is. let t = woken_stands c.channels i e is in (t.channel, t.is, t.id, t.up);
}

forget_lane : (t : LaneState EventView) → ((forget t).restart ≡ t.restart) × (t.at ≤ (forget t).at)
unfolding forget
forget_lane t = (refl, omega arith)

pub forward_restarted : (c : ClientState) → GoesForward c (restarted c)
forward_restarted c = record { common = forget_lane c.common; secret = forget_lane c.secret; settings = omega arith; channels = λ i e is. forgotten_up c.channels i e is }

pub forward_watches : (id : ℤ) (c : ClientState) → GoesForward c (watches id c)
forward_watches id c = record {
  common = (refl, omega arith);
  secret = (refl, omega arith);
  settings = omega arith;
  channels = λ i e is. let t = watched_stands c.channels id i e is in (t.channel, t.is, t.id, t.up);
}

-- ---- worlds

-- each client goes forward
abbrev AllForward : List ClientState → List ClientState → Type 0
AllForward cs ds = (k : ℕ) (c : ClientState) → slice_get cs k ≡ Some c → (d : ClientState) × (slice_get ds k ≡ Some d) × GoesForward c d

all_none : (cs : List ClientState) → AllForward cs cs
all_none cs k c is = (c, is, forward_none c)

all_then : (bs cs ds : List ClientState) → AllForward bs cs → AllForward cs ds → AllForward bs ds
all_then bs cs ds g h k c is =
    let one = g k c is in
    let two = h k one.0 one.1 in
    (two.0, two.1, forward_then c one.0 two.0 one.2 two.2)

set_index : (cs : List ClientState) (k : ℕ) (d : ClientState) (j : ℕ) (c : ClientState) → slice_get cs j ≡ Some c → (slice_get (set cs k d) j ≡ Some c) ⊎ ((j ≡ k) × (slice_get (set cs k d) j ≡ Some d))
set_index [] k d j c is = absurd (none-some c is)
set_index (x ∷ xs) zero d zero c is = inr (refl, refl)
set_index (x ∷ xs) zero d (suc j) c is = inl is
set_index (x ∷ xs) (suc k) d zero c is = inl is
set_index (x ∷ xs) (suc k) d (suc j) c is = elim (set_index xs k d j c is) [ inl a ↦ inl a | inr b ↦ inr (ap suc b.0, b.1) ]

all_set : (cs : List ClientState) (k : ℕ) (c d : ClientState) → slice_get cs k ≡ Some c → GoesForward c d → AllForward cs (set cs k d)
all_set cs k c d at g j e is = elim (set_index cs k d j e is) as (λ z. (x : ClientState) × (slice_get (set cs k d) j ≡ Some x) × GoesForward e x) [
  | inl old ↦ (e, old, forward_none e)
  | inr new ↦ (
      let same : c ≡ e = same_Some c e (sym at ∙ ap (slice_get cs) (sym new.0) ∙ is) in
      (d, new.1, subst (λ (x : ClientState). GoesForward x d) same g)
      )
]

post_forward : (w : World) (random_id : ℤ) (ps : List Post) (r : Option Receipt) (cause : Option PostFault) → AllForward w.clients (post_by w random_id ps r cause).clients
post_forward w random_id ps (Some r) cause = all_none w.clients
post_forward w random_id ps None (Some cause) = all_none w.clients
post_forward w random_id ps None None = all_none w.clients

served_forward : (w : World) (o : Option Packet) → AllForward w.clients (served w o).clients
served_forward w None = all_none w.clients
served_forward w (Some (push p)) = all_none w.clients
served_forward w (Some (request k n)) = all_none w.clients
served_forward w (Some (reply k n r s)) = all_none w.clients

steps_forward : (w : World) (k : ℕ) (f : ClientState → ClientState) (o : Option ClientState) → slice_get w.clients k ≡ o → ((c : ClientState) → GoesForward c (f c)) → AllForward w.clients (client_steps w k f o).clients
steps_forward w k f None at g = all_none w.clients
steps_forward w k f (Some c) at g = all_set w.clients k c (f c) at (g c)

asks_forward : (w : World) (k : ℕ) (o : Option ClientState) → slice_get w.clients k ≡ o → AllForward w.clients (asks w k o).clients
asks_forward w k None at = all_none w.clients
asks_forward w k (Some c) at = all_set w.clients k c (ticks c).client at (forward_ticks c)

-- a reply of the pool is what the server of its moment answers to the channel that takes it
pool_honest : (w : World) (k : ℕ) (c : ClientState) (n : ℕ) (v : Reply) (m : ServerState) → IsGood w → slice_get w.clients k ≡ Some c → (h : PacketFits w.server (boxes_of w) w.clients (reply k n v m)) → HonestTo (boxes_of w) c n v h.2.whole
pool_honest w k c n v m g at (r, is, was) x free asks =
    let awaits = was.awaits c at in
    let here = first_has (ChannelAsksBy n (Some (record { request = r; seq = was.seq }))) (asks_number n) c.channels x awaits.asks.channels asks in
    let own : r ≡ Channel_of x.id (pos x.lane.at) = here.0 (is_asked n x.lane.mode here.1) in
    let fits = channel_fits m was.whole x r was.seq own was.fits in
    let agrees = (first_has (λ d. ChannelAgrees (boxes_of w d.id) d) (asks_number n) c.channels x (g.agrees k c at).channels asks).0 in
    let t = channel_taken (was.whole x.id) (boxes_of w x.id) (channel_in m.channels x.id) x (was.ledger.channels x.id) (g.ledger.channels x.id) (was.continues.channels x.id) (was.ledger.kept x.id) fits agrees in
    let same : channel_difference (channel_in m.channels x.id) (pos x.lane.at) ≡ v = sym (is ∙ ap (answer m) own ∙ channel_answer_is m x.id (pos x.lane.at)) in
    (inside_of (was.whole x.id) x.lane.at fits, subst (TakenFrom (was.whole x.id) (boxes_of w x.id) x) same t)

reply_forward : (w : World) (j k : ℕ) (c : ClientState) (n : ℕ) (v : Reply) (m : ServerState) (b : Bool) → eqb j k ≡ b → IsGood w → slice_get w.clients k ≡ Some c → PacketFits w.server (boxes_of w) w.clients (reply j n v m)
    → GoesForward c (cond b (after_reply c (replied c n v)) c)
reply_forward w j k c n v m true e g at h =
    let own : PacketFits w.server (boxes_of w) w.clients (reply k n v m) = subst (λ (i : ℕ). PacketFits w.server (boxes_of w) w.clients (reply i n v m)) (same_number j k e) h in
    forward_replied w.server (boxes_of w) c n v own.2.whole g.ledger (g.agrees k c at) (pool_honest w k c n v m g at own)
reply_forward w j k c n v m false e g at h = forward_none c

received_forward : (w : World) (k : ℕ) (c : ClientState) (p : Packet) → IsGood w → slice_get w.clients k ≡ Some c → PacketFits w.server (boxes_of w) w.clients p → GoesForward c (received k c p)
received_forward w k c (push p) g at h = forward_pushed w.server (boxes_of w) c p g.ledger h (g.agrees k c at)
received_forward w k c (request j n) g at h = forward_none c
received_forward w k c (reply j n v m) g at h = reply_forward w j k c n v m (eqb j k) refl g at h

heard_forward : (w : World) (k m : ℕ) (o : Option ClientState) (p : Option Packet) → slice_get w.clients k ≡ o → slice_get w.pool m ≡ p → IsGood w → AllForward w.clients (heard w k o p).clients
heard_forward w k m None p at is g = all_none w.clients
heard_forward w k m (Some c) None at is g = all_none w.clients
heard_forward w k m (Some c) (Some p) at is g = all_set w.clients k c (received k c p) at (received_forward w k c p g at (g.pool m p is))

happens_forward : (w : World) (s : Step) → IsGood w → AllForward w.clients (happens w s).clients
happens_forward w (step.Post random_id ps) g = post_forward w random_id ps (map.get w.server.receipts random_id) (post_cause w.server ps)
happens_forward w (step.Date date) g = all_none w.clients
happens_forward w (step.Serve m) g = served_forward w (slice_get w.pool m)
happens_forward w (step.Hear k m) g = heard_forward w k m (slice_get w.clients k) (slice_get w.pool m) refl refl g
happens_forward w (step.Tick k) g = asks_forward w k (slice_get w.clients k) refl
happens_forward w (step.Wake k) g = steps_forward w k wakes (slice_get w.clients k) refl forward_wakes
happens_forward w (step.Watch k id) g = steps_forward w k (watches id) (slice_get w.clients k) refl (forward_watches id)
happens_forward w (step.Restart k) g = steps_forward w k restarted (slice_get w.clients k) refl forward_restarted
happens_forward w step.TooLong g = all_none w.clients
happens_forward w (step.ChannelTooLong id) g = all_none w.clients

pub run_more : (w : World) (xs ys : List Step) → run_from w (xs ++ ys) ≡ run_from (run_from w xs) ys
run_more w [] ys = refl
run_more w (x ∷ xs) ys = run_more (happens w x) xs ys

run_forward : (n : ℕ) (steps later : List Step) → AllForward (run n steps).clients (run_from (run n steps) later).clients
run_forward n steps [] = all_none (run n steps).clients
run_forward n steps (s ∷ later) =
    let w : World = run n steps in
    let next : World = happens w s in
    let last : World = run_from next later in
    let one = happens_forward w s (good_run changed_overlays n steps) in
    let more = subst (λ (v : World). AllForward v.clients (run_from v later).clients) (runs_go_on n steps s) (run_forward n (steps ++ s ∷ []) later) in
    all_then w.clients next.clients last.clients one more

pub clients_go_forward : ClientsGoForward
clients_go_forward n steps later k c is = subst (λ (w : World). (d : ClientState) × (slice_get w.clients k ≡ Some d) × GoesForward c d) (sym (run_more (start n) steps later)) (run_forward n steps later k c is)

-- ---- from the start on

inside : (cs : List ClientState) (k : ℕ) (c : ClientState) → slice_get cs k ≡ Some c → k < length cs
inside [] k c is = absurd (none-some c is)
inside (x ∷ xs) zero c is = omega arith
inside (x ∷ xs) (suc k) c is = omega (arith, inside xs k c is)

new_there : (n k : ℕ) → k < n → slice_get (new_clients n) k ≡ Some new_client
new_there zero k lt = absurd (omega (arith, lt))
new_there (suc n) zero lt = refl
new_there (suc n) (suc k) lt = new_there n k (omega (arith, lt))

pub runs_are_whole : (n : ℕ) (steps : List Step) (k : ℕ) (c : ClientState) → slice_get (run n steps).clients k ≡ Some c → IsWhole c
runs_are_whole n steps k c is =
    let lt : k < n = omega (arith, inside (run n steps).clients k c is, clients_stay n steps) in
    let (d, at, f) = clients_go_forward n [] steps k new_client (new_there n k lt) in
    let same : d ≡ c = same_Some d c (sym at ∙ is) in
    subst IsWhole same (f.common.0, f.secret.0)

-- a client that went forward from one that stood past a server stands past it
pub past_forward : (s : ServerState) (c d : ClientState) → GoesForward c d → IsPast s c → IsPast s d
past_forward s c d f h = record { common = omega (arith, f.common.1, h.common); secret = omega (arith, f.secret.1, h.secret); settings = omega (arith, f.settings, h.settings) }
