-- One more step, and the numbers that clients give beside the packets that were sent.
use Rattle.std.proofs.Common.{◌≡◌, ℕ, zero, suc, ◌+◌, ◌≤◌, ℤ, List, [], ◌∷◌, ◌++◌, length, length-append, length-set, set, map as each, cond, eqb, Bool, true, false, Option, Some, None, refl, sym, ap, ◌∙◌, subst, arith}
use Rattle.std.specs.Prelude.{slice_get}
use Rattle.std.specs.FinMap as map
use Rattle.std.proofs.lemmas.List.{length-map}
use Rattle.box_events.specs.declared.positions.Receipt.{Receipt}
use Rattle.box_events.specs.declared.requests.Post.{Post}
use Rattle.box_events.specs.declared.steps.Step.{Step}
use Rattle.box_events.specs.declared.steps.Step.TheVariants as step
use Rattle.box_server.specs.Refusing.{post_cause}
use Rattle.box_server.specs.declared.fault.PostFault.{PostFault}
use Rattle.box_client.specs.States.{ClientState}
use Rattle.box_client.specs.Asking.{ticks, wakes, restarted}
use Rattle.box_client.specs.Laws.{next_after}
use Rattle.box_client.specs.Replies.{Outcome, ignored, refuses, becomes, replied}
use Rattle.box_client.proofs.GivenOnce.{next_past, pushed_next, replied_next}
use Rattle.box_world.specs.Worlds.{Packet, push, request, reply, World, after_reply, client_steps, post_by, served, received, heard, asks, watches, happens, run_from, start, new_clients}
use Rattle.box_world.specs.Possible.{AllPossible, Possible}
use Rattle.box_world.specs.Laws.{ClientsStay, NextStaysBelow, PossibleGoOn, RunsGoOn}
use Rattle.box_world.proofs.Stepping.{new_is}
use Rattle.box_world.proofs.Worlds.{of_set}

-- ---- one more step

one_more : (w : World) (ss : List Step) (s : Step) → run_from w (ss ++ s ∷ []) ≡ happens (run_from w ss) s
one_more w [] s = refl
one_more w (x ∷ ss) s = one_more (happens w x) ss s

pub runs_go_on : RunsGoOn
runs_go_on n ss s = one_more (start n) ss s

all_more : (size : Packet → ℕ) (w : World) (ss : List Step) (s : Step) → AllPossible size w ss → Possible size (run_from w ss) s → AllPossible size w (ss ++ s ∷ [])
all_more size w [] s all next = (next, tt)
all_more size w (x ∷ ss) s all next = (all.0, all_more size (happens w x) ss s all.1 next)

pub possible_go_on : PossibleGoOn
possible_go_on size n ss s all next = all_more size (start n) ss s all next

-- ---- as many clients

same_post : (w : World) (random_id : ℤ) (ps : List Post) (r : Option Receipt) (cause : Option PostFault) → length (post_by w random_id ps r cause).clients ≡ length w.clients
same_post w random_id ps (Some r) cause = refl
same_post w random_id ps None (Some cause) = refl
same_post w random_id ps None None = refl

same_served : (w : World) (o : Option Packet) → length (served w o).clients ≡ length w.clients
same_served w None = refl
same_served w (Some (push p)) = refl
same_served w (Some (request k n)) = refl
same_served w (Some (reply k n r s)) = refl

same_heard : (w : World) (k : ℕ) (o : Option ClientState) (p : Option Packet) → length (heard w k o p).clients ≡ length w.clients
same_heard w k None p = refl
same_heard w k (Some c) None = refl
same_heard w k (Some c) (Some p) = length-set w.clients k (received k c p)

same_asks : (w : World) (k : ℕ) (o : Option ClientState) → length (asks w k o).clients ≡ length w.clients
same_asks w k None = refl
same_asks w k (Some c) = length-set w.clients k (ticks c).client

same_steps : (w : World) (k : ℕ) (f : ClientState → ClientState) (o : Option ClientState) → length (client_steps w k f o).clients ≡ length w.clients
same_steps w k f None = refl
same_steps w k f (Some c) = length-set w.clients k (f c)

same_happens : (w : World) (s : Step) → length (happens w s).clients ≡ length w.clients
same_happens w (step.Post random_id ps) = same_post w random_id ps (map.get w.server.receipts random_id) (post_cause w.server ps)
same_happens w (step.Date date) = refl
same_happens w (step.Serve m) = same_served w (slice_get w.pool m)
same_happens w (step.Hear k m) = same_heard w k (slice_get w.clients k) (slice_get w.pool m)
same_happens w (step.Tick k) = same_asks w k (slice_get w.clients k)
same_happens w (step.Wake k) = same_steps w k wakes (slice_get w.clients k)
same_happens w (step.Watch k id) = same_steps w k (watches id) (slice_get w.clients k)
same_happens w (step.Restart k) = same_steps w k restarted (slice_get w.clients k)
same_happens w step.TooLong = refl
same_happens w (step.ChannelTooLong id) = refl

same_from : (w : World) (ss : List Step) → length (run_from w ss).clients ≡ length w.clients
same_from w [] = refl
same_from w (s ∷ ss) = same_from (happens w s) ss ∙ same_happens w s

many_new : (n : ℕ) → length (new_clients n) ≡ n
many_new zero = refl
many_new (suc n) = ap suc (many_new n)

pub clients_stay : ClientsStay
clients_stay n ss = same_from (start n) ss ∙ many_new n

-- ---- the next numbers

-- each client's next number is b at most
abbrev AreLow : ℕ → List ClientState → Type 0
AreLow b cs = (k : ℕ) (c : ClientState) → slice_get cs k ≡ Some c → c.next ≤ b

-- one more than the packets at most
abbrev IsLow : World → Type 0
IsLow w = AreLow (1 + length w.pool) w.clients

lower : (a b : ℕ) (cs : List ClientState) → a ≤ b → AreLow a cs → AreLow b cs
lower a b cs le h k c is = let low = h k c is in omega (arith, le, low)

one_low : (b : ℕ) (cs : List ClientState) (k : ℕ) (d : ClientState) → AreLow b cs → d.next ≤ b → AreLow b (set cs k d)
one_low b cs k d h low = of_set (λ (c : ClientState). c.next ≤ b) cs k d h low

-- a packet more
sent_low : (w : World) (p : Packet) → IsLow w → AreLow (1 + length (w.pool ++ p ∷ [])) w.clients
sent_low w p h = lower (1 + length w.pool) (1 + length (w.pool ++ p ∷ [])) w.clients (let long = length-append w.pool (p ∷ []) in omega (arith, long)) h

low_post : (w : World) (random_id : ℤ) (ps : List Post) (r : Option Receipt) (cause : Option PostFault) → IsLow w → IsLow (post_by w random_id ps r cause)
low_post w random_id ps (Some r) cause h = h
low_post w random_id ps None (Some cause) h = h
low_post w random_id ps None None h = sent_low w _ h

low_served : (w : World) (o : Option Packet) → IsLow w → IsLow (served w o)
low_served w None h = h
low_served w (Some (push p)) h = h
low_served w (Some (request k n)) h = sent_low w _ h
low_served w (Some (reply k n r s)) h = h

after_next : (c : ClientState) (o : Outcome) → (after_reply c o).next ≡ next_after c o
after_next c ignored = refl
after_next c (refuses cause) = refl
after_next c (becomes d) = refl

either_next : (b : Bool) (c d : ClientState) → d.next ≡ c.next → (cond b d c).next ≡ c.next
either_next true c d e = e
either_next false c d e = refl

pub received_next : (k : ℕ) (c : ClientState) (p : Packet) → (received k c p).next ≡ c.next
received_next k c (push p) = pushed_next c p
received_next k c (request j n) = refl
received_next k c (reply j n r s) = either_next (eqb j k) c (after_reply c (replied c n r)) (after_next c (replied c n r) ∙ replied_next c n r)

low_heard : (w : World) (k : ℕ) (o : Option ClientState) (p : Option Packet) → slice_get w.clients k ≡ o → IsLow w → IsLow (heard w k o p)
low_heard w k None p at h = h
low_heard w k (Some c) None at h = h
low_heard w k (Some c) (Some p) at h = let same = received_next k c p in let low = h k c at in one_low (1 + length w.pool) w.clients k (received k c p) h (omega (arith, same, low))

low_asks : (w : World) (k : ℕ) (o : Option ClientState) → slice_get w.clients k ≡ o → IsLow w → IsLow (asks w k o)
low_asks w k None at h = h
low_asks w k (Some c) at h =
    let requests : List Packet = each (request k) (ticks c).asks in
    let more : length requests ≡ length (ticks c).asks = length-map (ticks c).asks (request k) in
    let long = length-append w.pool requests in
    let next = next_past c in
    let low = h k c at in
    one_low (1 + length (w.pool ++ requests)) w.clients k (ticks c).client (lower (1 + length w.pool) (1 + length (w.pool ++ requests)) w.clients (omega (arith, long)) h) (omega (arith, more, long, next, low))

low_steps : (w : World) (k : ℕ) (f : ClientState → ClientState) (o : Option ClientState) → slice_get w.clients k ≡ o → ((c : ClientState) → (f c).next ≡ c.next) → IsLow w → IsLow (client_steps w k f o)
low_steps w k f None at same h = h
low_steps w k f (Some c) at same h = let e = same c in let low = h k c at in one_low (1 + length w.pool) w.clients k (f c) h (omega (arith, e, low))

low_happens : (w : World) (s : Step) → IsLow w → IsLow (happens w s)
low_happens w (step.Post random_id ps) h = low_post w random_id ps (map.get w.server.receipts random_id) (post_cause w.server ps) h
low_happens w (step.Date date) h = h
low_happens w (step.Serve m) h = low_served w (slice_get w.pool m) h
low_happens w (step.Hear k m) h = low_heard w k (slice_get w.clients k) (slice_get w.pool m) refl h
low_happens w (step.Tick k) h = low_asks w k (slice_get w.clients k) refl h
low_happens w (step.Wake k) h = low_steps w k wakes (slice_get w.clients k) refl (λ c. refl) h
low_happens w (step.Watch k id) h = low_steps w k (watches id) (slice_get w.clients k) refl (λ c. refl) h
low_happens w (step.Restart k) h = low_steps w k restarted (slice_get w.clients k) refl (λ c. refl) h
low_happens w step.TooLong h = sent_low w _ h
low_happens w (step.ChannelTooLong id) h = sent_low w _ h

low_from : (w : World) (ss : List Step) → IsLow w → IsLow (run_from w ss)
low_from w [] h = h
low_from w (s ∷ ss) h = low_from (happens w s) ss (low_happens w s h)

low_new : (n : ℕ) → IsLow (start n)
low_new n k c is = subst (λ (d : ClientState). d.next ≤ 1) (sym (new_is n k c is)) (omega arith)

pub next_stays_below : NextStaysBelow
next_stays_below n ss k c is = low_from (start n) ss (low_new n) k c is
