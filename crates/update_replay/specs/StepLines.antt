-- The lines of a step, by the numbers of the world before and after it, and by the bytes of what it sends. This project's own.
use Rattle.std.specs.Prelude.{◌≡◌, ℕ, ◌+◌, ℤ, List, [], ◌∷◌, ◌++◌, length, drop, Bool, cond, ◌||◌, is_some, Option, Some, None, slice_get}
use Rattle.std.specs.FinMap as map
use Rattle.box_events.specs.declared.positions.Receipt.{Receipt}
use Rattle.box_events.specs.declared.requests.Post.{Post}
use Rattle.box_events.specs.declared.steps.Step.{Step}
use Rattle.box_events.specs.declared.steps.Step.TheVariants as step
use Rattle.channel_box.specs.declared.fault.WatchFault.{WatchFault}
use Rattle.channel_box.specs.declared.fault.WatchFault.TheVariants.{Already, TooMany}
use Rattle.channel_box.specs.Steps.{is_asking}
use Rattle.box_server.specs.declared.fault.PostFault.{PostFault}
use Rattle.box_server.specs.Servers.{state_of}
use Rattle.box_server.specs.Posting.{posted}
use Rattle.box_server.specs.Refusing.{post_cause}
use Rattle.box_client.specs.Numbers.{ClientNumbers, n_first, n_has_id, n_asks_number}
use Rattle.box_world.specs.Worlds.{Packet, push, request, reply}
use Rattle.box_world.specs.NumberWorlds.{NumberWorld, n_happens, n_requests, n_may_watch}
use Rattle.report_lines.specs.declared.heard.HeardAs.{HeardAs}
use Rattle.report_lines.specs.declared.heard.HeardAs.TheVariants as heard
use Rattle.report_lines.specs.Texts.{step_line, posted_text, again_text, refused_text, date_text, served_text, heard_text, ticked_text, woken_text, watched_text, restarted_text, too_long_text, channel_too_long_text, packet_line}

-- ---- what came of a step

abbrev pub post_text : NumberWorld → ℤ → List Post → Option Receipt → Option PostFault → List ℕ
post_text w random_id ps (Some receipt) cause = again_text
post_text w random_id ps None (Some cause) = refused_text cause
post_text w random_id ps None None = posted_text (state_of (posted w.server random_id ps)) (length w.pool)

-- the group or a channel asks the number
abbrev pub asks_it : ℕ → ClientNumbers → Bool
asks_it n c = is_asking n c.common.mode || is_some (n_first (n_asks_number n) c.channels)

-- as what a client hears a packet: a push, a reply that it waits for, or one that it doesn't wait for
abbrev pub heard_as : ClientNumbers → Packet → HeardAs
heard_as c (push p) = heard.Push
heard_as c (request k n) = heard.Stale
heard_as c (reply k n r s) = cond (asks_it n c) heard.Reply heard.Stale

-- of a client before and after
abbrev pub hear_text : ℕ → Option ClientNumbers → Option Packet → Option ClientNumbers → List ℕ
hear_text k (Some c) (Some m) (Some d) = heard_text k (heard_as c m) d
hear_text k c m d = []

abbrev pub tick_text : ℕ → Option ClientNumbers → List ℕ
tick_text k None = []
tick_text k (Some c) = ticked_text k (length (n_requests c))

-- why a channel isn't watched from now on: it is watched already, or there is no place for it
abbrev pub watch_cause : ℤ → ClientNumbers → Option WatchFault
watch_cause id c = cond (n_may_watch c.channels id) None (Some (cond (is_some (n_first (n_has_id id) c.channels)) Already TooMany))

abbrev pub watch_text : ℕ → ℤ → Option ClientNumbers → List ℕ
watch_text k id None = []
watch_text k id (Some c) = watched_text k id (watch_cause id c)

abbrev pub restart_text : ℕ → Option ClientNumbers → List ℕ
restart_text k None = []
restart_text k (Some d) = restarted_text k d

-- the text of a step, which leads from the one world to the other
abbrev pub step_text : NumberWorld → Step → NumberWorld → List ℕ
step_text w (step.Post random_id ps) v = post_text w random_id ps (map.get w.server.receipts random_id) (post_cause w.server ps)
step_text w (step.Date date) v = date_text v.server.date
step_text w (step.Serve m) v = served_text (length w.pool)
step_text w (step.Hear k m) v = hear_text k (slice_get w.clients k) (slice_get w.pool m) (slice_get v.clients k)
step_text w (step.Tick k) v = tick_text k (slice_get w.clients k)
step_text w (step.Wake k) v = woken_text k
step_text w (step.Watch k id) v = watch_text k id (slice_get w.clients k)
step_text w (step.Restart k) v = restart_text k (slice_get v.clients k)
step_text w step.TooLong v = too_long_text (length w.pool)
step_text w (step.ChannelTooLong id) v = channel_too_long_text (length w.pool)

-- ---- packets

-- the lines of packets from number m on, by their bytes
abbrev pub packet_lines : ℕ → List (List ℕ) → List ℕ
packet_lines m [] = []
packet_lines m (bytes ∷ more) = packet_line m bytes ++ packet_lines (m + 1) more

-- each packet has these bytes; which bytes it may have is handed in
abbrev pub AreSpelled : (Packet → List ℕ → Type 0) → List Packet → List (List ℕ) → Type 0
AreSpelled IsSpelled [] [] = Unit {0}
AreSpelled IsSpelled [] (bytes ∷ more) = ⊥
AreSpelled IsSpelled (p ∷ ps) [] = ⊥
AreSpelled IsSpelled (p ∷ ps) (bytes ∷ more) = IsSpelled p bytes × AreSpelled IsSpelled ps more

-- the packets that a step sends
abbrev pub new_packets : NumberWorld → Step → List Packet
new_packets w s = drop (length w.pool) (n_happens w s).pool

-- the lines of step number k in the world before it: its own, and one for each packet that it sends
abbrev pub step_lines : ℕ → NumberWorld → Step → List (List ℕ) → List ℕ
step_lines k w s sent = step_line k (step_text w s (n_happens w s)) ++ packet_lines (length w.pool) sent

abbrev pub StepLines : (Packet → List ℕ → Type 0) → ℕ → NumberWorld → Step → List ℕ → Type 0
StepLines IsSpelled k w s lines = (sent : List (List ℕ)) × AreSpelled IsSpelled (new_packets w s) sent × (lines ≡ step_lines k w s sent)
