-- What holds of a world that stands for a run: its requests are served, its replies are taken, its clients may ask.
use Rattle.std.proofs.Common.{◌≡◌, ℕ, ◌<◌, ◌≤◌, ◌^◌, ℤ, List, [], ◌∷◌, length, set, Option, Some, None, refl, sym, ap, ◌∙◌, subst, arith}
use Rattle.std.specs.Prelude.{slice_get}
use Rattle.std.specs.FinMap as finite
use Rattle.box_events.specs.declared.limits.TheConstants.{MAX_CHANNELS}
use Rattle.box_events.specs.declared.positions.Receipt.{Receipt}
use Rattle.box_events.specs.declared.requests.Numbered.{Numbered}
use Rattle.box_events.specs.declared.requests.Post.{Post}
use Rattle.box_events.specs.declared.requests.Request.{Request}
use Rattle.box_events.specs.declared.requests.Request.TheVariants.{State, Difference, Channel, Post as PostRequest}
use Rattle.box_events.specs.declared.replies.Reply.{Reply}
use Rattle.box_events.specs.declared.steps.Step.{Step}
use Rattle.box_events.specs.declared.steps.Step.TheVariants as step
use Rattle.box_server.specs.Answers.{IsAnswered}
use Rattle.box_server.specs.Refusing.{post_cause}
use Rattle.box_server.specs.Servers.{ServerState}
use Rattle.box_server.specs.declared.fault.PostFault.{PostFault}
use Rattle.box_server.proofs.Carrying.{changed_overlays}
use Rattle.box_client.specs.States.{ClientState}
use Rattle.box_client.specs.Asking.{ticks, wakes, restarted}
use Rattle.box_client.specs.Replies.{refuses, replied}
use Rattle.box_client.specs.declared.fault.ClientFault.{ClientFault}
use Rattle.box_client.proofs.GivenOnce.{next_past}
use Rattle.box_world.specs.Agreeing.{Boxes}
use Rattle.box_world.specs.Reached.{boxes_of}
use Rattle.box_world.specs.Requesting.{RequestFits}
use Rattle.box_world.specs.Worlds.{Packet, push, request, reply, World, client_steps, post_by, served, received, heard, asks, watches, happens, run_from, run, start}
use Rattle.box_world.proofs.Numbers.{numbers_stay_below}
use Rattle.box_world.proofs.OneMore.{next_stays_below, received_next}
use Rattle.box_world.proofs.Reaching.{clients_agree, packets_fit, replies_are_taken}
use Rattle.box_world.proofs.Stepping.{new_is}
use Rattle.box_world.proofs.Worlds.{of_set}
use Rattle.update_world.specs.Shown.{Shown}
use Rattle.update_world.specs.inner.Making.{IsSteady}
use Rattle.update_world.proofs.SentLists.{few_sent, sent_length}

-- ---- requests

answered_by : (s : ServerState) (boxes : Boxes) (r : Request) (seq : ℕ) → RequestFits s boxes r seq → IsAnswered r
answered_by s boxes State seq f = absurd f
answered_by s boxes (Difference pts qts date) seq f = tt
answered_by s boxes (Channel id pts) seq f = tt
answered_by s boxes (PostRequest random_id posts) seq f = absurd f

-- a client's request is one that a server answers
pub is_answered : (n : ℕ) (steps : List Step) (m k : ℕ) (r : Numbered) → slice_get (run n steps).pool m ≡ Some (request k r) → IsAnswered r.request
is_answered n steps m k r at =
    let sent = packets_fit changed_overlays n steps m (request k r) at in
    answered_by (run n steps).server (boxes_of (run n steps)) r.request sent.seq sent.fits

-- ---- replies

pub is_taken : (n : ℕ) (steps : List Step) (m k number : ℕ) (r : Reply) (s : ServerState) (c : ClientState) → slice_get (run n steps).pool m ≡ Some (reply k number r s) → slice_get (run n steps).clients k ≡ Some c
    → (cause : ClientFault) → replied c number r ≡ refuses cause → ⊥
is_taken n steps m k number r s c at there cause is = replies_are_taken changed_overlays n steps m k number r s c cause at there is

-- ---- clients number their requests from 1

abbrev FromOne : World → Type 0
FromOne w = (k : ℕ) (c : ClientState) → slice_get w.clients k ≡ Some c → 1 ≤ c.next

one_more : (cs : List ClientState) (k : ℕ) (d : ClientState) → ((j : ℕ) (c : ClientState) → slice_get cs j ≡ Some c → 1 ≤ c.next) → 1 ≤ d.next → (j : ℕ) (c : ClientState) → slice_get (set cs k d) j ≡ Some c → 1 ≤ c.next
one_more cs k d h low = of_set (λ (c : ClientState). 1 ≤ c.next) cs k d h low

one_posted : (w : World) (random_id : ℤ) (ps : List Post) (r : Option Receipt) (cause : Option PostFault) → FromOne w → FromOne (post_by w random_id ps r cause)
one_posted w random_id ps (Some r) cause h = h
one_posted w random_id ps None (Some cause) h = h
one_posted w random_id ps None None h = h

one_served : (w : World) (o : Option Packet) → FromOne w → FromOne (served w o)
one_served w None h = h
one_served w (Some (push p)) h = h
one_served w (Some (request k n)) h = h
one_served w (Some (reply k n r s)) h = h

one_heard : (w : World) (k : ℕ) (o : Option ClientState) (p : Option Packet) → slice_get w.clients k ≡ o → FromOne w → FromOne (heard w k o p)
one_heard w k None p at h = h
one_heard w k (Some c) None at h = h
one_heard w k (Some c) (Some p) at h = let same = received_next k c p in let low = h k c at in one_more w.clients k (received k c p) h (omega (arith, same, low))

one_asks : (w : World) (k : ℕ) (o : Option ClientState) → slice_get w.clients k ≡ o → FromOne w → FromOne (asks w k o)
one_asks w k None at h = h
one_asks w k (Some c) at h = let next = next_past c in let low = h k c at in one_more w.clients k (ticks c).client h (omega (arith, next, low))

one_steps : (w : World) (k : ℕ) (f : ClientState → ClientState) (o : Option ClientState) → slice_get w.clients k ≡ o → ((c : ClientState) → (f c).next ≡ c.next) → FromOne w → FromOne (client_steps w k f o)
one_steps w k f None at same h = h
one_steps w k f (Some c) at same h = let e = same c in let low = h k c at in one_more w.clients k (f c) h (omega (arith, e, low))

one_happens : (w : World) (s : Step) → FromOne w → FromOne (happens w s)
one_happens w (step.Post random_id ps) h = one_posted w random_id ps (finite.get w.server.receipts random_id) (post_cause w.server ps) h
one_happens w (step.Date date) h = h
one_happens w (step.Serve m) h = one_served w (slice_get w.pool m) h
one_happens w (step.Hear k m) h = one_heard w k (slice_get w.clients k) (slice_get w.pool m) refl h
one_happens w (step.Tick k) h = one_asks w k (slice_get w.clients k) refl h
one_happens w (step.Wake k) h = one_steps w k wakes (slice_get w.clients k) refl (λ c. refl) h
one_happens w (step.Watch k id) h = one_steps w k (watches id) (slice_get w.clients k) refl (λ c. refl) h
one_happens w (step.Restart k) h = one_steps w k restarted (slice_get w.clients k) refl (λ c. refl) h
one_happens w step.TooLong h = h
one_happens w (step.ChannelTooLong id) h = h

one_from : (w : World) (ss : List Step) → FromOne w → FromOne (run_from w ss)
one_from w [] h = h
one_from w (s ∷ ss) h = one_from (happens w s) ss (one_happens w s h)

one_new : (n : ℕ) → FromOne (start n)
one_new n k c is = subst (λ (d : ClientState). 1 ≤ d.next) (sym (new_is n k c is)) (omega arith)

from_one : (n : ℕ) (steps : List Step) → FromOne (run n steps)
from_one n steps = one_from (start n) steps (one_new n)

-- ---- what a client of a steady world may ask

pub record MayAsk (c : ClientState) : Type 0 where
  pub low : 1 ≤ c.next
  pub limit : c.next ≤ 2147483582
  pub date : c.settings.date < 2 ^ 31
  pub few : length c.channels ≤ MAX_CHANNELS

pub may_ask : (s : Shown) → IsSteady s → (k : ℕ) (c : ClientState) → slice_get s.clients k ≡ Some c → MayAsk c
may_ask s steady k c at =
    let n : ℕ = length s.clients in
    let steps : List Step = steady.run.steps in
    let there : slice_get (run n steps).clients k ≡ Some c = ap (λ (cs : List ClientState). slice_get cs k) steady.run.stands.clients ∙ at in
    let next = next_stays_below n steps k c there in
    let many = few_sent s.profile steady.profile s.pool (run n steps).pool steady.run.stands.pool in
    let same = sent_length s.profile s.pool (run n steps).pool steady.run.stands.pool in
    let most = steady.most in
    let past = (clients_agree changed_overlays n steps k c there).settings.past in
    let date : s.server.date < 2 ^ 31 = steady.sound.date in
    let server : (run n steps).server.date ≡ s.server.date = ap (λ (t : ServerState). t.date) steady.run.stands.server in
    record {
      low = from_one n steps k c there;
      limit = omega (arith, next, many, same, most);
      date = omega (arith, past, date, server);
      few = (numbers_stay_below changed_overlays n steps k c there).0;
    }
