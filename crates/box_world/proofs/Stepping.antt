-- Each step of a world keeps what holds of it.
use Rattle.std.proofs.Common.{◌≡◌, inl, inr, ℕ, zero, suc, ◌≤◌, ℤ, List, [], ◌∷◌, ◌++◌, map as each, set, max, Bool, true, false, cond, eqb, Option, Some, None, refl, sym, ap, ◌∙◌, subst, arith}
use Rattle.std.specs.Prelude.{slice_get}
use Rattle.std.specs.FinMap as map
use Rattle.std.proofs.lemmas.Bool.Decides.{nat_tests}
use Rattle.std.proofs.lemmas.Option.{none-some, same_Some}
use Rattle.box_events.specs.declared.positions.Receipt.{Receipt}
use Rattle.box_events.specs.declared.replies.Reply.{Reply}
use Rattle.box_events.specs.declared.requests.Numbered.{Numbered}
use Rattle.box_events.specs.declared.requests.Post.{Post}
use Rattle.box_events.specs.declared.steps.Step.{Step}
use Rattle.box_events.specs.declared.steps.Step.TheVariants as step
use Rattle.box_events.specs.declared.updates.Push.{Push}
use Rattle.box_events.specs.declared.updates.Push.TheVariants.{TooLong}
use Rattle.box_events.specs.Events.{EventView}
use Rattle.box_events.specs.SettingLists.{Dated}
use Rattle.box_server.specs.Servers.{ServerState, new_server, dated_at}
use Rattle.box_server.specs.Answers.{answer}
use Rattle.box_server.specs.Entries.{entries_of}
use Rattle.box_server.specs.Posting.{posted, push_of}
use Rattle.box_server.specs.Refusing.{post_cause}
use Rattle.box_server.specs.declared.fault.PostFault.{PostFault}
use Rattle.box_client.specs.States.{ClientState, new_client}
use Rattle.box_client.specs.Replies.{Outcome, replied}
use Rattle.box_client.specs.Asking.{ticks, wakes, restarted}
use Rattle.box_world.specs.Worlds.{Packet, push, request, reply, World, sent, all_sent, goes_on, client_steps, post_by, served, channel_too_long, after_reply, received, heard, asks, watches, happens, run_from, new_clients, start, run}
use Rattle.box_world.specs.WholeBoxes.{events_pushed, whole_box}
use Rattle.box_world.specs.Agreeing.{Reaches, Boxes, Agrees}
use Rattle.box_world.specs.Awaiting.{Asked, Awaits, Below, Still}
use Rattle.box_world.specs.Growing.{Continues, IsLedger}
use Rattle.box_world.specs.Reached.{ClientAwaits, WasSent, PacketFits, boxes_of, IsGood}
use Rattle.box_world.proofs.Alls.{all_weaker}
use Rattle.box_world.proofs.Lists.{of_map, written}
use Rattle.box_world.proofs.Growing.{agree_as_servers_grow, new_clients_agree}
use Rattle.box_world.proofs.GoingOn.{agree_ticks, agree_wakes, agree_watches, agree_restarts, still_wakes, still_watches, still_restarts}
use Rattle.box_world.proofs.Continuing.{push_more, continues_then, continues_same, more_none, later_none}
use Rattle.box_world.proofs.Pushing.{Goes, goes_none, goes_pushed}
use Rattle.box_world.proofs.Posting.{after, carried_events, ledger_posted, continues_posted, push_posted}
use Rattle.box_world.proofs.Replying.{Carries, Told, stale, takes}
use Rattle.box_world.proofs.Telling.{told}
use Rattle.box_world.proofs.Ticking.{awaits_ticks, below_ticks, tick_new}
use Rattle.box_world.proofs.Worlds.{Advances, good_advances, still_below, still_awaits, waits_same, waits_set, of_set, whole_append, whole_same, append_none, ledger_same}

-- ---- nothing happens

idle : (w : World) → IsGood w → Advances w w
idle w g = record {
  more = [];
  pool = sym (append_none w.pool);
  continues = continues_same w.server (boxes_of w) (boxes_of w) (λ id. refl);
  ledger = g.ledger;
  agrees = g.agrees;
  below = g.below;
  waits = waits_same w.clients;
  new = λ i p is. absurd (none-some p is);
}

-- ---- a packet without events is sent

pub only : (P : Packet → Type 0) (m p : Packet) (i : ℕ) → slice_get (m ∷ []) i ≡ Some p → P m → P p
only P m p zero is h = subst P (same_Some m p is) h
only P m p (suc i) is h = absurd (none-some p is)

quiet : (w : World) (m : Packet) → IsGood w → ((id : ℤ) → whole_box (m ∷ []) id ≡ []) → PacketFits w.server (boxes_of (sent w m)) w.clients m → Advances w (sent w m)
quiet w m g none fits =
    let same : (id : ℤ) → boxes_of (sent w m) id ≡ boxes_of w id = λ id. whole_same w.pool (m ∷ []) id (none id) in
    let goes = continues_same w.server (boxes_of w) (boxes_of (sent w m)) same in
    record {
      more = m ∷ [];
      pool = refl;
      continues = goes;
      ledger = ledger_same w.server (boxes_of w) (boxes_of (sent w m)) same g.ledger;
      agrees = λ k c is. agree_as_servers_grow w.server w.server (boxes_of w) (boxes_of (sent w m)) c goes (g.agrees k c is);
      below = g.below;
      waits = waits_same w.clients;
      new = λ i p is. only (PacketFits w.server (boxes_of (sent w m)) w.clients) m p i is fits;
    }

-- ---- a post

after_is : (w : World) (random_id : ℤ) (posts : List Post) (id : ℤ) → whole_box (w.pool ++ push (push_of w.server posts) ∷ []) id ≡ after (boxes_of w) posts id
unfolding push_of
after_is w random_id posts id =
    whole_append w.pool (push (push_of w.server posts) ∷ []) id
    ∙ ap (λ (l : List EventView). whole_box w.pool id ++ l) (append_none (events_pushed id (push_of w.server posts)) ∙ carried_events id w.server (entries_of posts))

posts_new : (w : World) (random_id : ℤ) (posts : List Post) → post_cause w.server posts ≡ None → IsGood w → Advances w (sent (record w { server = posted w.server random_id posts }) (push (push_of w.server posts)))
posts_new w random_id posts none g =
    let p : Push = push_of w.server posts in
    let t : ServerState = posted w.server random_id posts in
    let v : World = sent (record w { server = t }) (push p) in
    let is : (id : ℤ) → boxes_of v id ≡ after (boxes_of w) posts id = after_is w random_id posts in
    let same = continues_same t (after (boxes_of w) posts) (boxes_of v) is in
    let goes = continues_then w.server t t (boxes_of w) (after (boxes_of w) posts) (boxes_of v) (continues_posted w.server (boxes_of w) random_id posts) same in
    record {
      more = push p ∷ [];
      pool = refl;
      continues = goes;
      ledger = ledger_same t (after (boxes_of w) posts) (boxes_of v) is (ledger_posted w.server (boxes_of w) random_id posts none g.ledger);
      agrees = λ k c at. agree_as_servers_grow w.server t (boxes_of w) (boxes_of v) c goes (g.agrees k c at);
      below = g.below;
      waits = waits_same w.clients;
      new = λ i q at. only (PacketFits t (boxes_of v) w.clients) (push p) q i at (push_more t t (after (boxes_of w) posts) (boxes_of v) p same (push_posted w.server (boxes_of w) random_id posts g.ledger));
    }

posts : (w : World) (random_id : ℤ) (ps : List Post) (r : Option Receipt) (cause : Option PostFault) → post_cause w.server ps ≡ cause → IsGood w → Advances w (post_by w random_id ps r cause)
posts w random_id ps (Some r) cause e g = idle w g
posts w random_id ps None (Some cause) e g = idle w g
posts w random_id ps None None e g = posts_new w random_id ps e g

-- ---- the clock

dates : (w : World) (date : ℕ) → IsGood w → Advances w (record w { server = dated_at w.server date })
dates w date g =
    let s : ServerState = w.server in
    let t : ServerState = dated_at s date in
    let up : s.date ≤ max s.date date = omega arith in
    let goes : Continues s t (boxes_of w) (boxes_of w) = record {
      common = more_none s.common s.common refl;
      secret = more_none s.secret s.secret refl;
      channels = λ id. more_none (boxes_of w id) (boxes_of w id) refl;
      settings = later_none s.date s.settings s.settings refl;
      date = up;
    } in
    record {
      more = [];
      pool = sym (append_none w.pool);
      continues = goes;
      ledger = record {
        common = g.ledger.common;
        secret = g.ledger.secret;
        messages = g.ledger.messages;
        channels = g.ledger.channels;
        kept = g.ledger.kept;
        dates = all_weaker (λ (e : Dated). e.date ≤ s.date) (λ (e : Dated). e.date ≤ t.date) (λ e h. omega (arith, h, up)) s.settings g.ledger.dates;
        rise = g.ledger.rise;
      };
      agrees = λ k c is. agree_as_servers_grow s t (boxes_of w) (boxes_of w) c goes (g.agrees k c is);
      below = g.below;
      waits = waits_same w.clients;
      new = λ i p is. absurd (none-some p is);
    }

-- ---- the server answers

serves : (w : World) (m : ℕ) (o : Option Packet) → slice_get w.pool m ≡ o → IsGood w → Advances w (served w o)
serves w m None is g = idle w g
serves w m (Some (push p)) is g = idle w g
serves w m (Some (reply k n r s)) is g = idle w g
serves w m (Some (request k n)) is g =
    let was : WasSent w.server (boxes_of w) w.clients k n.number n.request = g.pool m (request k n) is in
    let r : Packet = reply k n.number (answer w.server n.request) w.server in
    quiet w r g (λ id. refl) (
      n.request,
      refl,
      record {
        whole = boxes_of w;
        ledger = g.ledger;
        continues = continues_same w.server (boxes_of w) (boxes_of (sent w r)) (λ id. whole_same w.pool (r ∷ []) id refl);
        seq = was.seq;
        fits = was.fits;
        awaits = was.awaits;
      },
    )

-- ---- a client goes on

goes : (w : World) (k : ℕ) (c d : ClientState) → slice_get w.clients k ≡ Some c → Goes w.server (boxes_of w) c d → IsGood w → Advances w (goes_on w k d)
goes w k c d at h g = record {
  more = [];
  pool = sym (append_none w.pool);
  continues = continues_same w.server (boxes_of w) (boxes_of w) (λ id. refl);
  ledger = g.ledger;
  agrees = of_set (Agrees w.server (boxes_of w)) w.clients k d g.agrees h.agrees;
  below = of_set Below w.clients k d g.below (still_below c d h.still (g.below k c at));
  waits = waits_set w.clients k c d at (λ n a. still_awaits c d n a h.still);
  new = λ i p is. absurd (none-some p is);
}

steps : (w : World) (k : ℕ) (f : ClientState → ClientState) (o : Option ClientState) → slice_get w.clients k ≡ o → ((c : ClientState) → Agrees w.server (boxes_of w) c → Agrees w.server (boxes_of w) (f c)) → ((c : ClientState) → Still c (f c)) → IsGood w
    → Advances w (client_steps w k f o)
steps w k f None is agrees still g = idle w g
steps w k f (Some c) is agrees still g = goes w k c (f c) is (record { agrees = agrees c (g.agrees k c is); still = still c }) g

-- ---- a client hears

pub goes_told : (s : ServerState) (boxes : Boxes) (c : ClientState) (P : ClientState → Type 0) (o : Outcome) → Agrees s boxes c → Told s boxes c P o → Goes s boxes c (after_reply c o)
goes_told s boxes c P o a (stale is) = subst (λ (x : Outcome). Goes s boxes c (after_reply c x)) (sym is) (goes_none s boxes c a)
goes_told s boxes c P o a (takes d is h past) = subst (λ (x : Outcome). Goes s boxes c (after_reply c x)) (sym is) h

pub same_number : (j k : ℕ) → eqb j k ≡ true → j ≡ k
same_number j k e = grind (arith, nat_tests)

-- whatever client it is, a reply of the pool is taken or stale
pub reply_told : (carries : Carries) (w : World) (k : ℕ) (c : ClientState) (n : ℕ) (v : Reply) (m : ServerState) → IsGood w → slice_get w.clients k ≡ Some c → PacketFits w.server (boxes_of w) w.clients (reply k n v m)
    → Told w.server (boxes_of w) c (Reaches m v) (replied c n v)
reply_told carries w k c n v m g at (r, is, h) = told carries m w.server h.whole (boxes_of w) c n r h.seq v h.ledger g.ledger h.continues (g.agrees k c at) h.fits is (h.awaits c at)

goes_reply : (carries : Carries) (w : World) (j k : ℕ) (c : ClientState) (n : ℕ) (v : Reply) (m : ServerState) (b : Bool) → eqb j k ≡ b → IsGood w → slice_get w.clients k ≡ Some c → PacketFits w.server (boxes_of w) w.clients (reply j n v m)
    → Goes w.server (boxes_of w) c (cond b (after_reply c (replied c n v)) c)
goes_reply carries w j k c n v m true e g at h =
    let own : PacketFits w.server (boxes_of w) w.clients (reply k n v m) = subst (λ (i : ℕ). PacketFits w.server (boxes_of w) w.clients (reply i n v m)) (same_number j k e) h in
    goes_told w.server (boxes_of w) c (Reaches m v) (replied c n v) (g.agrees k c at) (reply_told carries w k c n v m g at own)
goes_reply carries w j k c n v m false e g at h = goes_none w.server (boxes_of w) c (g.agrees k c at)

pub goes_received : (carries : Carries) (w : World) (k : ℕ) (c : ClientState) (p : Packet) → IsGood w → slice_get w.clients k ≡ Some c → PacketFits w.server (boxes_of w) w.clients p → Goes w.server (boxes_of w) c (received k c p)
goes_received carries w k c (push p) g at h = goes_pushed w.server (boxes_of w) c p g.ledger h (g.agrees k c at)
goes_received carries w k c (request j n) g at h = goes_none w.server (boxes_of w) c (g.agrees k c at)
goes_received carries w k c (reply j n v m) g at h = goes_reply carries w j k c n v m (eqb j k) refl g at h

hears : (carries : Carries) (w : World) (k m : ℕ) (o : Option ClientState) (p : Option Packet) → slice_get w.clients k ≡ o → slice_get w.pool m ≡ p → IsGood w → Advances w (heard w k o p)
hears carries w k m None p at is g = idle w g
hears carries w k m (Some c) None at is g = idle w g
hears carries w k m (Some c) (Some p) at is g = goes w k c (received k c p) at (goes_received carries w k c p g at (g.pool m p is)) g

-- ---- a client asks

requests_none : (k : ℕ) (qs : List Numbered) (id : ℤ) → whole_box (each (request k) qs) id ≡ []
requests_none k [] id = refl
requests_none k (q ∷ qs) id = requests_none k qs id

here_alone : (cs : List ClientState) (k : ℕ) (d : ClientState) (n : ℕ) (a : Asked) → Awaits n a d → ClientAwaits (set cs k d) k n a
here_alone cs k d n a h c is = elim (written cs k d k c is) [
  | inl other ↦ absurd (other.0 refl)
  | inr same ↦ subst (Awaits n a) (sym same.1) h
]

ticks_once : (w : World) (k : ℕ) (o : Option ClientState) → slice_get w.clients k ≡ o → IsGood w → Advances w (asks w k o)
ticks_once w k None is g = idle w g
ticks_once w k (Some c) is g =
    let d : ClientState = (ticks c).client in
    let ms : List Packet = each (request k) (ticks c).asks in
    let v : World = all_sent (goes_on w k d) ms in
    let same : (id : ℤ) → boxes_of v id ≡ boxes_of w id = λ id. whole_same w.pool ms id (requests_none k (ticks c).asks id) in
    let on = continues_same w.server (boxes_of w) (boxes_of v) same in
    let ledger = ledger_same w.server (boxes_of w) (boxes_of v) same g.ledger in
    let agrees : (j : ℕ) (e : ClientState) → slice_get w.clients j ≡ Some e → Agrees w.server (boxes_of v) e = λ j e at. agree_as_servers_grow w.server w.server (boxes_of w) (boxes_of v) e on (g.agrees j e at) in
    record {
      more = ms;
      pool = refl;
      continues = on;
      ledger = ledger;
      agrees = of_set (Agrees w.server (boxes_of v)) w.clients k d agrees (agree_ticks w.server (boxes_of v) c (agrees k c is));
      below = of_set Below w.clients k d g.below (below_ticks c (g.below k c is));
      waits = waits_set w.clients k c d is (awaits_ticks c);
      new = λ i p at.
          let found = of_map (request k) (ticks c).asks i p at in
          let new = tick_new w.server (boxes_of v) c (agrees k c is) (g.below k c is) i found.0 found.1 in
          subst (PacketFits w.server (boxes_of v) (set w.clients k d)) (sym found.2)
          (record { seq = new.seq; fits = new.fits; awaits = here_alone w.clients k d found.0.number (record { request = found.0.request; seq = new.seq }) new.awaits });
    }

-- ---- every step

pub advances : (carries : Carries) (w : World) (s : Step) → IsGood w → Advances w (happens w s)
advances carries w (step.Post random_id ps) g = posts w random_id ps (map.get w.server.receipts random_id) (post_cause w.server ps) refl g
advances carries w (step.Date date) g = dates w date g
advances carries w (step.Serve m) g = serves w m (slice_get w.pool m) refl g
advances carries w (step.Hear k m) g = hears carries w k m (slice_get w.clients k) (slice_get w.pool m) refl refl g
advances carries w (step.Tick k) g = ticks_once w k (slice_get w.clients k) refl g
advances carries w (step.Wake k) g = steps w k wakes (slice_get w.clients k) refl (agree_wakes w.server (boxes_of w)) still_wakes g
advances carries w (step.Watch k id) g = steps w k (watches id) (slice_get w.clients k) refl (agree_watches id w.server (boxes_of w)) (still_watches id) g
advances carries w (step.Restart k) g = steps w k restarted (slice_get w.clients k) refl (agree_restarts w.server (boxes_of w)) still_restarts g
advances carries w step.TooLong g = quiet w (push TooLong) g (λ id. refl) tt
advances carries w (step.ChannelTooLong id) g = quiet w (push (channel_too_long w.server id)) g (λ j. refl) (tt, λ lt. absurd (omega (arith, lt)))

-- ---- every world that steps lead to

pub new_is : (n k : ℕ) (c : ClientState) → slice_get (new_clients n) k ≡ Some c → c ≡ new_client
new_is zero k c is = absurd (none-some c is)
new_is (suc n) zero c is = sym (same_Some new_client c is)
new_is (suc n) (suc k) c is = new_is n k c is

new_below : Below new_client
new_below n le = record { group = λ e. absurd cc; channels = tt }

pub ledger_start : IsLedger new_server (λ id. [])
ledger_start = record {
  common = tt;
  secret = tt;
  messages = tt;
  channels = λ id. tt;
  kept = λ id. record { gone = []; parts = refl; first = refl; kept = refl };
  dates = λ i d lt. absurd (omega (arith, lt));
  rise = λ i j d a b lt. absurd (omega (arith, lt));
}

pub good_start : (n : ℕ) → IsGood (start n)
good_start n = record {
  ledger = ledger_start;
  agrees = λ k c is. subst (Agrees new_server (λ id. [])) (sym (new_is n k c is)) (new_clients_agree new_server (λ id. []));
  below = λ k c is. subst Below (sym (new_is n k c is)) new_below;
  pool = λ m p is. absurd (none-some p is);
}

good_from : (carries : Carries) (w : World) (ss : List Step) → IsGood w → IsGood (run_from w ss)
good_from carries w [] g = g
good_from carries w (s ∷ ss) g = good_from carries (happens w s) ss (good_advances w (happens w s) g (advances carries w s g))

pub good_run : (carries : Carries) (n : ℕ) (ss : List Step) → IsGood (run n ss)
good_run carries n ss = good_from carries (start n) ss (good_start n)
