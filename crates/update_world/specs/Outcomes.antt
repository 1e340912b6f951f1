-- What comes of a step in a world. This project's own.
use Rattle.std.specs.Prelude.{ℕ, ℤ, List, length, Option, Some, None, slice_get, cond, ◌||◌, is_some, Bool, true, false}
use Rattle.std.specs.FinMap as map
use Rattle.box_events.specs.declared.positions.Receipt.{Receipt}
use Rattle.box_events.specs.declared.requests.Post.{Post}
use Rattle.box_events.specs.declared.steps.Step.{Step}
use Rattle.box_events.specs.declared.steps.Step.TheVariants as step
use Rattle.channel_box.specs.States.{first}
use Rattle.channel_box.specs.Steps.{is_asking, asks_number, may_watch, is_watched}
use Rattle.channel_box.specs.declared.fault.WatchFault.{WatchFault}
use Rattle.channel_box.specs.declared.fault.WatchFault.TheVariants.{Already, TooMany}
use Rattle.box_server.specs.declared.fault.PostFault.{PostFault}
use Rattle.box_server.specs.Servers.{state_of, dated_at}
use Rattle.box_server.specs.Posting.{posted}
use Rattle.box_server.specs.Refusing.{post_cause}
use Rattle.box_client.specs.States.{ClientState}
use Rattle.box_client.specs.Asking.{ticks}
use Rattle.box_world.specs.Worlds.{World, Packet, push, request, reply}
use Rattle.report_lines.specs.declared.heard.HeardAs.{HeardAs}
use Rattle.report_lines.specs.declared.heard.HeardAs.TheVariants as heard
use Rattle.update_world.specs.declared.outcome.Outcome.{Outcome}
use Rattle.update_world.specs.declared.outcome.Outcome.TheVariants.{Posted, Again, PostRefused, Date, Served, Heard, Ticked, Woken, Watched, Restarted, Pushed}

-- of posts under a random id: they are known, refused, or new
abbrev pub post_outcome : World → ℤ → List Post → Option Receipt → Option PostFault → Outcome
post_outcome w random_id ps (Some receipt) cause = Again
post_outcome w random_id ps None (Some fault) = PostRefused fault
post_outcome w random_id ps None None = Posted (state_of (posted w.server random_id ps)) (length w.pool)

-- the group or a channel asks the number
abbrev pub asks_it : ℕ → ClientState → Bool
asks_it n c = is_asking n c.common.mode || is_some (first (asks_number n) c.channels)

-- as what a client hears a packet: a push, a reply that it waits for, or one that it doesn't wait for
abbrev pub heard_as : ClientState → Packet → HeardAs
heard_as c (push p) = heard.Push
heard_as c (request k n) = heard.Stale
heard_as c (reply k n r s) = cond (asks_it n c) heard.Reply heard.Stale

-- what is heard by whom isn't there is never told
abbrev pub heard_by : Option ClientState → Option Packet → HeardAs
heard_by (Some c) (Some m) = heard_as c m
heard_by (Some c) None = heard.Stale
heard_by None m = heard.Stale

-- how many requests a client makes
abbrev pub asks_of : Option ClientState → ℕ
asks_of None = 0
asks_of (Some c) = length (ticks c).asks

-- why a channel isn't watched from now on: it is watched already, or there is no place for it
abbrev pub watch_cause : ℤ → Option ClientState → Option WatchFault
watch_cause id None = None
watch_cause id (Some c) = cond (may_watch c.channels id) None (Some (cond (is_watched c.channels id) Already TooMany))

unfoldable pub outcome_of : World → Step → Outcome
outcome_of w (step.Post random_id ps) = post_outcome w random_id ps (map.get w.server.receipts random_id) (post_cause w.server ps)
outcome_of w (step.Date date) = Date (dated_at w.server date).date
outcome_of w (step.Serve m) = Served (length w.pool)
outcome_of w (step.Hear k m) = Heard k (heard_by (slice_get w.clients k) (slice_get w.pool m))
outcome_of w (step.Tick k) = Ticked k (asks_of (slice_get w.clients k)) (length w.pool)
outcome_of w (step.Wake k) = Woken k
outcome_of w (step.Watch k id) = Watched k id (watch_cause id (slice_get w.clients k))
outcome_of w (step.Restart k) = Restarted k
outcome_of w step.TooLong = Pushed (length w.pool) false
outcome_of w (step.ChannelTooLong id) = Pushed (length w.pool) true
