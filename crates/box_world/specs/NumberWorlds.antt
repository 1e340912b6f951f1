-- A world with its clients as numbers alone: what a report needs of it, but for the server's boxes. This project's own.
use Rattle.std.specs.Prelude.{◌≡◌, ℕ, zero, suc, ◌+◌, ℤ, pos, List, [], ◌∷◌, ◌++◌, length, map as each, Bool, false, cond, eqb, ltb, is_some, Option, Some, None, slice_get, set}
use Rattle.std.specs.FinMap as map
use Rattle.box_events.specs.declared.limits.TheConstants.{MAX_CHANNELS}
use Rattle.box_events.specs.declared.positions.Receipt.{Receipt}
use Rattle.box_events.specs.declared.requests.Numbered.{Numbered}
use Rattle.box_events.specs.declared.requests.Post.{Post}
use Rattle.box_events.specs.declared.requests.Request.TheVariants.{Difference, Channel}
use Rattle.box_events.specs.declared.steps.Step.{Step}
use Rattle.box_events.specs.declared.steps.Step.TheVariants as step
use Rattle.box_events.specs.declared.updates.Push.TheVariants.{TooLong}
use Rattle.channel_box.specs.Steps.{is_due}
use Rattle.box_server.specs.declared.fault.PostFault.{PostFault}
use Rattle.box_server.specs.Servers.{ServerState, new_server, dated_at}
use Rattle.box_server.specs.Posting.{posted, push_of}
use Rattle.box_server.specs.Refusing.{post_cause}
use Rattle.box_server.specs.Answers.{answer}
use Rattle.box_client.specs.Numbers.{ChannelNumbers, ClientNumbers, client_numbers, n_first, n_has_id, n_group_is_due, n_group_ticked, n_new_client, n_pushed, n_replied, n_ticks, n_wakes, n_client_restarted, n_watched_if}
use Rattle.box_world.specs.Worlds.{Packet, push, request, reply, World, channel_too_long, run}

-- ---- what a client asks, by its numbers

abbrev pub n_group_requests : ClientNumbers → List Numbered
n_group_requests c = cond (n_group_is_due c) (record { number = c.next; request = Difference (pos c.common.at) (pos c.secret.at) c.settings.date } ∷ []) []

abbrev pub n_channel_requests : ℕ → List ChannelNumbers → List Numbered
n_channel_requests n [] = []
n_channel_requests n (c ∷ cs) = cond (is_due c.flag (map.len c.lane.held) c.lane.mode) (record { number = n; request = Channel c.id (pos c.lane.at) } ∷ n_channel_requests (n + 1) cs) (n_channel_requests n cs)

abbrev pub n_requests : ClientNumbers → List Numbered
n_requests c = n_group_requests c ++ n_channel_requests (n_group_ticked c).next (n_group_ticked c).channels

abbrev pub n_may_watch : List ChannelNumbers → ℤ → Bool
n_may_watch cs id = cond (is_some (n_first (n_has_id id) cs)) false (ltb (length cs) MAX_CHANNELS)

abbrev pub n_watches : ℤ → ClientNumbers → ClientNumbers
n_watches id c = n_watched_if (n_may_watch c.channels id) c id

-- ---- the world

pub record NumberWorld : Type 0 where
  pub server : ServerState
  pub clients : List ClientNumbers
  pub pool : List Packet

abbrev pub numbers_of : World → NumberWorld
numbers_of w = record { server = w.server; clients = each client_numbers w.clients; pool = w.pool }

abbrev pub n_sent : NumberWorld → Packet → NumberWorld
n_sent w m = record w { pool = w.pool ++ m ∷ [] }

abbrev pub n_goes_on : NumberWorld → ℕ → ClientNumbers → NumberWorld
n_goes_on w k c = record w { clients = set w.clients k c }

abbrev pub n_post_by : NumberWorld → ℤ → List Post → Option Receipt → Option PostFault → NumberWorld
n_post_by w random_id ps (Some receipt) cause = w
n_post_by w random_id ps None (Some cause) = w
n_post_by w random_id ps None None = n_sent (record w { server = posted w.server random_id ps }) (push (push_of w.server ps))

abbrev pub n_served : NumberWorld → Option Packet → NumberWorld
n_served w None = w
n_served w (Some (push p)) = w
n_served w (Some (request k n)) = n_sent w (reply k n.number (answer w.server n.request) w.server)
n_served w (Some (reply k n r s)) = w

abbrev pub n_received : ℕ → ClientNumbers → Packet → ClientNumbers
n_received k c (push p) = n_pushed c p
n_received k c (request j n) = c
n_received k c (reply j n r s) = cond (eqb j k) (n_replied c n r) c

abbrev pub n_heard : NumberWorld → ℕ → Option ClientNumbers → Option Packet → NumberWorld
n_heard w k None m = w
n_heard w k (Some c) None = w
n_heard w k (Some c) (Some m) = n_goes_on w k (n_received k c m)

abbrev pub n_asks : NumberWorld → ℕ → Option ClientNumbers → NumberWorld
n_asks w k None = w
n_asks w k (Some c) = record (n_goes_on w k (n_ticks c)) { pool = w.pool ++ each (request k) (n_requests c) }

abbrev pub n_steps : NumberWorld → ℕ → (ClientNumbers → ClientNumbers) → Option ClientNumbers → NumberWorld
n_steps w k f None = w
n_steps w k f (Some c) = n_goes_on w k (f c)

abbrev pub n_happens : NumberWorld → Step → NumberWorld
n_happens w (step.Post random_id ps) = n_post_by w random_id ps (map.get w.server.receipts random_id) (post_cause w.server ps)
n_happens w (step.Date date) = record w { server = dated_at w.server date }
n_happens w (step.Serve m) = n_served w (slice_get w.pool m)
n_happens w (step.Hear k m) = n_heard w k (slice_get w.clients k) (slice_get w.pool m)
n_happens w (step.Tick k) = n_asks w k (slice_get w.clients k)
n_happens w (step.Wake k) = n_steps w k n_wakes (slice_get w.clients k)
n_happens w (step.Watch k id) = n_steps w k (n_watches id) (slice_get w.clients k)
n_happens w (step.Restart k) = n_steps w k n_client_restarted (slice_get w.clients k)
n_happens w step.TooLong = n_sent w (push TooLong)
n_happens w (step.ChannelTooLong id) = n_sent w (push (channel_too_long w.server id))

abbrev pub n_run_from : NumberWorld → List Step → NumberWorld
n_run_from w [] = w
n_run_from w (s ∷ ss) = n_run_from (n_happens w s) ss

abbrev pub n_new_clients : ℕ → List ClientNumbers
n_new_clients zero = []
n_new_clients (suc n) = n_new_client ∷ n_new_clients n

abbrev pub n_run : ℕ → List Step → NumberWorld
n_run n steps = n_run_from (record { server = new_server; clients = n_new_clients n; pool = [] }) steps

-- the numbers of a world after steps are those of the world of numbers after them
abbrev pub NumbersAlone : Type 0
NumbersAlone = (n : ℕ) (steps : List Step) → numbers_of (run n steps) ≡ n_run n steps
