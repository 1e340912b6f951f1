-- The numbers that clients give.
use Rattle.std.proofs.Common.{◌≡◌, ℕ, ◌+◌, ◌*◌, ◌≤◌, List, [], ◌∷◌, length, set, Bool, true, false, Option, Some, None, refl, sym, subst, arith}
use Rattle.std.specs.Prelude.{slice_get}
use Rattle.std.specs.FinMap as map
use Rattle.box_events.specs.declared.limits.TheConstants.{MAX_ASKS, MAX_CHANNELS}
use Rattle.box_events.specs.declared.positions.Receipt.{Receipt}
use Rattle.box_events.specs.declared.requests.Post.{Post}
use Rattle.box_events.specs.declared.steps.Step.{Step}
use Rattle.box_events.specs.declared.steps.Step.TheVariants as step
use Rattle.channel_box.specs.States.{ChannelState}
use Rattle.channel_box.specs.Steps.{channel_is_due, ticked}
use Rattle.box_server.specs.Refusing.{post_cause}
use Rattle.box_server.specs.declared.fault.PostFault.{PostFault}
use Rattle.box_client.specs.States.{ClientState}
use Rattle.box_client.specs.Asking.{group_is_due, group_ticked, ticks, wakes, restarted}
use Rattle.box_world.specs.Worlds.{Packet, push, request, reply, World, client_steps, post_by, served, received, heard, asks, watches, happens, run_from, start}
use Rattle.box_world.specs.Awaiting.{Still}
use Rattle.box_world.specs.Reached.{IsGood}
use Rattle.box_world.specs.Laws.{NumbersStayBelow}
use Rattle.box_world.proofs.GoingOn.{still_wakes, still_watches, still_restarts}
use Rattle.box_world.proofs.Replying.{Carries}
use Rattle.box_world.proofs.Stepping.{advances, good_start, goes_received, new_is}
use Rattle.box_world.proofs.Worlds.{good_advances, of_set}

-- a client watches no more channels than it may, and its next number is b at most
record IsFew (b : ℕ) (c : ClientState) : Type 0 where
  pub channels : length c.channels ≤ MAX_CHANNELS
  pub next : c.next ≤ b

abbrev AreFew : ℕ → List ClientState → Type 0
AreFew b cs = (k : ℕ) (c : ClientState) → slice_get cs k ≡ Some c → IsFew b c

-- ---- a tick

length_by : (n : ℕ) (d : ChannelState) (ds : List ChannelState) (b : Bool) → channel_is_due d ≡ b → ((m : ℕ) → length (ticked m ds).channels ≡ length ds) → length (ticked n (d ∷ ds)).channels ≡ length (d ∷ ds)
length_by n d ds true e rest = rw e (omega (arith, rest (n + 1)))
length_by n d ds false e rest = rw e (omega (arith, rest n))

length_ticked : (ds : List ChannelState) (n : ℕ) → length (ticked n ds).channels ≡ length ds
length_ticked [] n = refl
length_ticked (d ∷ ds) n = length_by n d ds (channel_is_due d) refl (length_ticked ds)

next_by : (n : ℕ) (d : ChannelState) (ds : List ChannelState) (b : Bool) → channel_is_due d ≡ b → ((m : ℕ) → (ticked m ds).next ≤ m + length ds) → (ticked n (d ∷ ds)).next ≤ n + length (d ∷ ds)
next_by n d ds true e rest = rw e (omega (arith, rest (n + 1)))
next_by n d ds false e rest = rw e (omega (arith, rest n))

next_ticked : (ds : List ChannelState) (n : ℕ) → (ticked n ds).next ≤ n + length ds
next_ticked [] n = omega arith
next_ticked (d ∷ ds) n = next_by n d ds (channel_is_due d) refl (next_ticked ds)

few_group : (b : ℕ) (c : ClientState) (t : Bool) → group_is_due c ≡ t → IsFew b c → IsFew (b + 1) (group_ticked c).client
few_group b c true e h = rw e (record { channels = h.channels; next = omega (arith, h.next) })
few_group b c false e h = rw e (record { channels = h.channels; next = omega (arith, h.next) })

few_ticks : (b : ℕ) (c : ClientState) → IsFew b c → IsFew (b + MAX_ASKS) (ticks c).client
few_ticks b c h =
    let d : ClientState = (group_ticked c).client in
    let g = few_group b c (group_is_due c) refl h in
    record { channels = omega (arith, length_ticked d.channels d.next, g.channels); next = omega (arith, next_ticked d.channels d.next, g.next, g.channels) }

-- ---- steps

few_still : (b : ℕ) (c d : ClientState) → Still c d → IsFew b c → IsFew (b + MAX_ASKS) d
few_still b c d s h = record { channels = s.few h.channels; next = omega (arith, h.next, s.next) }

few_same : (b : ℕ) (c : ClientState) → IsFew b c → IsFew (b + MAX_ASKS) c
few_same b c h = record { channels = h.channels; next = omega (arith, h.next) }

all_same : (b : ℕ) (cs : List ClientState) → AreFew b cs → AreFew (b + MAX_ASKS) cs
all_same b cs h k c is = few_same b c (h k c is)

one_goes : (b : ℕ) (cs : List ClientState) (k : ℕ) (d : ClientState) → AreFew b cs → IsFew (b + MAX_ASKS) d → AreFew (b + MAX_ASKS) (set cs k d)
one_goes b cs k d h new = of_set (IsFew (b + MAX_ASKS)) cs k d (all_same b cs h) new

few_post : (b : ℕ) (w : World) (random_id : _) (ps : List Post) (r : Option Receipt) (cause : Option PostFault) → AreFew b w.clients → AreFew (b + MAX_ASKS) (post_by w random_id ps r cause).clients
few_post b w random_id ps (Some r) cause h = all_same b w.clients h
few_post b w random_id ps None (Some cause) h = all_same b w.clients h
few_post b w random_id ps None None h = all_same b w.clients h

few_served : (b : ℕ) (w : World) (o : Option Packet) → AreFew b w.clients → AreFew (b + MAX_ASKS) (served w o).clients
few_served b w None h = all_same b w.clients h
few_served b w (Some (push p)) h = all_same b w.clients h
few_served b w (Some (request k n)) h = all_same b w.clients h
few_served b w (Some (reply k n r s)) h = all_same b w.clients h

few_heard : (carries : Carries) (b : ℕ) (w : World) (k m : ℕ) (o : Option ClientState) (p : Option Packet) → slice_get w.clients k ≡ o → slice_get w.pool m ≡ p → IsGood w → AreFew b w.clients → AreFew (b + MAX_ASKS) (heard w k o p).clients
few_heard carries b w k m None p at is g h = all_same b w.clients h
few_heard carries b w k m (Some c) None at is g h = all_same b w.clients h
few_heard carries b w k m (Some c) (Some p) at is g h =
    one_goes b w.clients k (received k c p) h (few_still b c (received k c p) (goes_received carries w k c p g at (g.pool m p is)).still (h k c at))

few_asks : (b : ℕ) (w : World) (k : ℕ) (o : Option ClientState) → slice_get w.clients k ≡ o → AreFew b w.clients → AreFew (b + MAX_ASKS) (asks w k o).clients
few_asks b w k None at h = all_same b w.clients h
few_asks b w k (Some c) at h = one_goes b w.clients k (ticks c).client h (few_ticks b c (h k c at))

few_steps : (b : ℕ) (w : World) (k : ℕ) (f : ClientState → ClientState) (o : Option ClientState) → slice_get w.clients k ≡ o → ((c : ClientState) → Still c (f c)) → AreFew b w.clients → AreFew (b + MAX_ASKS) (client_steps w k f o).clients
few_steps b w k f None at still h = all_same b w.clients h
few_steps b w k f (Some c) at still h = one_goes b w.clients k (f c) h (few_still b c (f c) (still c) (h k c at))

few_happens : (carries : Carries) (b : ℕ) (w : World) (s : Step) → IsGood w → AreFew b w.clients → AreFew (b + MAX_ASKS) (happens w s).clients
few_happens carries b w (step.Post random_id ps) g h = few_post b w random_id ps (map.get w.server.receipts random_id) (post_cause w.server ps) h
few_happens carries b w (step.Date date) g h = all_same b w.clients h
few_happens carries b w (step.Serve m) g h = few_served b w (slice_get w.pool m) h
few_happens carries b w (step.Hear k m) g h = few_heard carries b w k m (slice_get w.clients k) (slice_get w.pool m) refl refl g h
few_happens carries b w (step.Tick k) g h = few_asks b w k (slice_get w.clients k) refl h
few_happens carries b w (step.Wake k) g h = few_steps b w k wakes (slice_get w.clients k) refl still_wakes h
few_happens carries b w (step.Watch k id) g h = few_steps b w k (watches id) (slice_get w.clients k) refl (still_watches id) h
few_happens carries b w (step.Restart k) g h = few_steps b w k restarted (slice_get w.clients k) refl still_restarts h
few_happens carries b w step.TooLong g h = all_same b w.clients h
few_happens carries b w (step.ChannelTooLong id) g h = all_same b w.clients h

few_weaker : (a b : ℕ) (cs : List ClientState) → a ≤ b → AreFew a cs → AreFew b cs
few_weaker a b cs le h k c is = let f = h k c is in record { channels = f.channels; next = omega (arith, f.next, le) }

few_from : (carries : Carries) (b : ℕ) (w : World) (ss : List Step) → IsGood w → AreFew b w.clients → AreFew (b + MAX_ASKS * length ss) (run_from w ss).clients
few_from carries b w [] g h = few_weaker b (b + MAX_ASKS * length {A = Step} []) w.clients (omega arith) h
few_from carries b w (s ∷ ss) g h =
    let next : World = happens w s in
    few_weaker ((b + MAX_ASKS) + MAX_ASKS * length ss) (b + MAX_ASKS * length (s ∷ ss)) (run_from next ss).clients (omega arith)
    (few_from carries (b + MAX_ASKS) next ss (good_advances w next g (advances carries w s g)) (few_happens carries b w s g h))

few_new : (n : ℕ) → AreFew 1 (start n).clients
few_new n k c is = subst (IsFew 1) (sym (new_is n k c is)) (record { channels = omega arith; next = omega arith })

pub numbers_stay_below : Carries → NumbersStayBelow
numbers_stay_below carries n ss k c is = let h = few_from carries 1 (start n) ss (good_start n) (few_new n) k c is in (h.channels, h.next)
