-- The dates of made runs.
use Rattle.std.proofs.Common.{◌≡◌, ℕ, ℤ, zero, suc, ◌+◌, ◌≤◌, ◌%◌, ◌==◌, List, [], ◌∷◌, Bool, true, false, Option, Some, None, refl, ◌∙◌, arith}
use Rattle.std.specs.Prelude.{slice_get}
use Rattle.std.specs.FinMap as maps
use Rattle.box_events.specs.declared.positions.Receipt.{Receipt}
use Rattle.box_events.specs.declared.requests.Post.{Post}
use Rattle.box_events.specs.declared.steps.Step.{Step}
use Rattle.box_events.specs.declared.steps.Step.TheVariants as step
use Rattle.box_server.specs.Entries.{Entry, to_common, to_secret, to_channel, to_settings, entries_of}
use Rattle.box_server.specs.Posting.{applied_all, applied, posted}
use Rattle.box_server.specs.Refusing.{post_cause}
use Rattle.box_server.specs.Servers.{ServerState}
use Rattle.box_server.specs.declared.fault.PostFault.{PostFault}
use Rattle.box_client.specs.Numbers.{ClientNumbers, n_wakes, n_client_restarted}
use Rattle.box_world.specs.NumberWorlds.{NumberWorld, n_happens, n_post_by, n_served, n_heard, n_asks, n_steps, n_watches, n_run, n_run_from}
use Rattle.box_world.specs.Possible.{is_for, is_served}
use Rattle.box_world.specs.Worlds.{Packet, push, request, reply}
use Rattle.update_replay.specs.Draws.{drawn, draw_of}
use Rattle.update_replay.specs.Laws.{IsNextDate, MadeDatesAreNext, MadeDatesStayBelow}
use Rattle.update_replay.specs.Made.{hears_drawn, hears_if, hears_last, serves_last, last_where, or_date, or_dated, drawn_rest, made_step, made_from}
use Rattle.update_replay.proofs.DrawLaws.{either}

-- ---- the steps

if_next : (date k m : ℕ) (b : Bool) → IsNextDate date (or_date date (hears_if b k m))
if_next date k m true = tt
if_next date k m false = refl

drawn_next : (date k x : ℕ) (pool : List Packet) → IsNextDate date (or_dated date (hears_drawn pool k x)).it
drawn_next date k x [] = refl
drawn_next date k x (p ∷ ps) = if_next date k _ (is_for k (slice_get (p ∷ ps) _))

last_next : (date k : ℕ) (o : Option ℕ) → IsNextDate date (or_date date (hears_last k o))
last_next date k None = refl
last_next date k (Some m) = tt

served_next : (date : ℕ) (o : Option ℕ) → IsNextDate date (or_date date (serves_last o))
served_next date None = refl
served_next date (Some m) = tt

rest_next : (date x : ℕ) → IsNextDate date (drawn_rest x).it
rest_next date x = either (IsNextDate date) (draw_of x % 16 == 0) _ _ tt (either (IsNextDate date) (draw_of x % 16 == 1) _ _ tt tt)

pub made_dates_are_next : MadeDatesAreNext
made_dates_are_next w n x =
    let kind = draw_of x % 8 in
    let k = draw_of (drawn x) % 2 in
    let P = IsNextDate w.server.date in
    either P (kind == 2) _ _ refl
    (either P (kind == 3) _ _ (drawn_next w.server.date k (drawn (drawn x)) w.pool)
    (either P (kind == 4) _ _ (last_next w.server.date k (last_where (λ p. is_for k (Some p)) 0 w.pool))
    (either P (kind == 5) _ _ tt
    (either P (kind == 6) _ _ (served_next w.server.date (last_where (λ p. is_served (Some p)) 0 w.pool))
    (either P (kind == 7) _ _ (rest_next w.server.date (drawn x)) tt)))))

-- ---- the run

applied_date : (s : ServerState) (x : Entry) → (applied s x).date ≡ s.date
applied_date s (to_common e) = refl
applied_date s (to_secret body) = refl
applied_date s (to_channel id e) = refl
applied_date s (to_settings x) = refl

all_applied_date : (s : ServerState) (xs : List Entry) → (applied_all s xs).date ≡ s.date
all_applied_date s [] = refl
all_applied_date s (x ∷ xs) = all_applied_date (applied s x) xs ∙ applied_date s x

posted_date : (s : ServerState) (id : ℤ) (ps : List Post) → (posted s id ps).date ≡ s.date
unfolding posted
posted_date s id ps = all_applied_date s (entries_of ps)

post_date : (w : NumberWorld) (id : ℤ) (ps : List Post) (known : Option Receipt) (cause : Option PostFault) → (n_post_by w id ps known cause).server.date ≡ w.server.date
post_date w id ps (Some receipt) cause = refl
post_date w id ps None (Some cause) = refl
post_date w id ps None None = posted_date w.server id ps

serve_date : (w : NumberWorld) (m : Option Packet) → (n_served w m).server.date ≡ w.server.date
serve_date w None = refl
serve_date w (Some (push p)) = refl
serve_date w (Some (request k n)) = refl
serve_date w (Some (reply k n r s)) = refl

hear_date : (w : NumberWorld) (k : ℕ) (c : Option ClientNumbers) (m : Option Packet) → (n_heard w k c m).server.date ≡ w.server.date
hear_date w k None m = refl
hear_date w k (Some c) None = refl
hear_date w k (Some c) (Some m) = refl

tick_date : (w : NumberWorld) (k : ℕ) (c : Option ClientNumbers) → (n_asks w k c).server.date ≡ w.server.date
tick_date w k None = refl
tick_date w k (Some c) = refl

go_date : (w : NumberWorld) (k : ℕ) (f : ClientNumbers → ClientNumbers) (c : Option ClientNumbers) → (n_steps w k f c).server.date ≡ w.server.date
go_date w k f None = refl
go_date w k f (Some c) = refl

next_date : (w : NumberWorld) (s : Step) → IsNextDate w.server.date s → (n_happens w s).server.date ≤ w.server.date + 1
next_date w (step.Post id ps) next = omega (arith, post_date w id ps (maps.get w.server.receipts id) (post_cause w.server ps))
next_date w (step.Date date) next = omega (arith, next)
next_date w (step.Serve m) next = omega (arith, serve_date w (slice_get w.pool m))
next_date w (step.Hear k m) next = omega (arith, hear_date w k (slice_get w.clients k) (slice_get w.pool m))
next_date w (step.Tick k) next = omega (arith, tick_date w k (slice_get w.clients k))
next_date w (step.Wake k) next = omega (arith, go_date w k n_wakes (slice_get w.clients k))
next_date w (step.Watch k id) next = omega (arith, go_date w k (n_watches id) (slice_get w.clients k))
next_date w (step.Restart k) next = omega (arith, go_date w k n_client_restarted (slice_get w.clients k))
next_date w step.TooLong next = omega arith
next_date w (step.ChannelTooLong id) next = omega arith

run_date : (count : ℕ) (w : NumberWorld) (n x : ℕ) → (n_run_from w (made_from count w n x)).server.date ≤ w.server.date + count
run_date zero w n x = omega arith
run_date (suc count) w n x =
    let s = made_step w n x in
    omega (arith, run_date count (n_happens w s.it) (n + 1) s.x, next_date w s.it (made_dates_are_next w n x))

pub made_dates_stay_below : MadeDatesStayBelow
made_dates_stay_below number count = omega (arith, run_date count (n_run 2 []) 0 number)
