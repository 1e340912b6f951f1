-- A server, its clients, and every message that was ever sent, over any list of steps.
-- This project's own: a message may be delivered any number of times, at any moment, or never.
use Rattle.std.specs.Prelude.{ℕ, zero, suc, ℤ, List, [], ◌∷◌, ◌++◌, map as each, cond, eqb, Option, Some, None, slice_get, set}
use Rattle.std.specs.FinMap as map
use Rattle.box_events.specs.declared.positions.Receipt.{Receipt}
use Rattle.box_events.specs.declared.requests.Numbered.{Numbered}
use Rattle.box_events.specs.declared.requests.Post.{Post}
use Rattle.box_events.specs.declared.replies.Reply.{Reply}
use Rattle.box_events.specs.declared.steps.Step.{Step}
use Rattle.box_events.specs.declared.steps.Step.TheVariants as step
use Rattle.box_events.specs.declared.updates.Push.{Push}
use Rattle.box_events.specs.declared.updates.Push.TheVariants.{TooLong, Container}
use Rattle.box_events.specs.declared.updates.Update.TheVariants.{ChannelTooLong}
use Rattle.channel_box.specs.Steps.{watched}
use Rattle.box_server.specs.Servers.{ServerState, new_server, dated_at}
use Rattle.box_server.specs.Posting.{posted, push_of}
use Rattle.box_server.specs.Refusing.{post_cause}
use Rattle.box_server.specs.declared.fault.PostFault.{PostFault}
use Rattle.box_server.specs.Answers.{answer}
use Rattle.box_client.specs.States.{ClientState, new_client}
use Rattle.box_client.specs.Pushes.{pushed}
use Rattle.box_client.specs.Replies.{Outcome, ignored, refuses, becomes, replied}
use Rattle.box_client.specs.Asking.{ticks, wakes, restarted}

-- A message that was sent: a push, the request of a client, or the reply to a client's request of a number, with the server that made it.
pub data Packet : Type 0 where
  push : Push → Packet
  request : ℕ → Numbered → Packet
  reply : ℕ → ℕ → Reply → ServerState → Packet

-- the server, the clients in order, and the pool: all messages in the order in which they were sent
pub record World : Type 0 where
  pub server : ServerState
  pub clients : List ClientState
  pub pool : List Packet

-- ---- what is sent, and who goes on

abbrev pub sent : World → Packet → World
sent w m = record w { pool = w.pool ++ m ∷ [] }

abbrev pub all_sent : World → List Packet → World
all_sent w ms = record w { pool = w.pool ++ ms }

abbrev pub goes_on : World → ℕ → ClientState → World
goes_on w k c = record w { clients = set w.clients k c }

-- a client that is there goes on by a step
abbrev pub client_steps : World → ℕ → (ClientState → ClientState) → Option ClientState → World
client_steps w k f None = w
client_steps w k f (Some c) = goes_on w k (f c)

-- ---- the server

-- a known post and a refused one change nothing; a new one is applied, and its push is sent
abbrev pub post_by : World → ℤ → List Post → Option Receipt → Option PostFault → World
post_by w random_id posts (Some receipt) cause = w
post_by w random_id posts None (Some cause) = w
post_by w random_id posts None None = sent (record w { server = posted w.server random_id posts }) (push (push_of w.server posts))

abbrev pub post_happens : World → ℤ → List Post → World
post_happens w random_id posts = post_by w random_id posts (map.get w.server.receipts random_id) (post_cause w.server posts)

-- the server answers a request of the pool as it stands
abbrev pub served : World → Option Packet → World
served w None = w
served w (Some (push p)) = w
served w (Some (request k n)) = sent w (reply k n.number (answer w.server n.request) w.server)
served w (Some (reply k n r s)) = w

-- what the server pushes where more is new in a channel than a push would carry
abbrev pub channel_too_long : ServerState → ℤ → Push
channel_too_long s id = Container (ChannelTooLong id ∷ []) s.date 0 0

-- ---- clients

abbrev pub after_reply : ClientState → Outcome → ClientState
after_reply c ignored = c
after_reply c (refuses cause) = c
after_reply c (becomes d) = d

-- A client receives a message. A request, and another client's reply, change nothing.
abbrev pub received : ℕ → ClientState → Packet → ClientState
received k c (push p) = pushed c p
received k c (request j n) = c
received k c (reply j n r s) = cond (eqb j k) (after_reply c (replied c n r)) c

abbrev pub heard : World → ℕ → Option ClientState → Option Packet → World
heard w k None m = w
heard w k (Some c) None = w
heard w k (Some c) (Some m) = goes_on w k (received k c m)

-- a client goes on, and what it asks is sent
abbrev pub asks : World → ℕ → Option ClientState → World
asks w k None = w
asks w k (Some c) = all_sent (goes_on w k (ticks c).client) (each (request k) (ticks c).asks)

abbrev pub watches : ℤ → ClientState → ClientState
watches id c = record c { channels = watched c.channels id }

-- ---- steps; one that isn't possible changes nothing

abbrev pub happens : World → Step → World
happens w (step.Post random_id posts) = post_happens w random_id posts
happens w (step.Date date) = record w { server = dated_at w.server date }
happens w (step.Serve m) = served w (slice_get w.pool m)
happens w (step.Hear k m) = heard w k (slice_get w.clients k) (slice_get w.pool m)
happens w (step.Tick k) = asks w k (slice_get w.clients k)
happens w (step.Wake k) = client_steps w k wakes (slice_get w.clients k)
happens w (step.Watch k id) = client_steps w k (watches id) (slice_get w.clients k)
happens w (step.Restart k) = client_steps w k restarted (slice_get w.clients k)
happens w step.TooLong = sent w (push TooLong)
happens w (step.ChannelTooLong id) = sent w (push (channel_too_long w.server id))

abbrev pub run_from : World → List Step → World
run_from w [] = w
run_from w (s ∷ ss) = run_from (happens w s) ss

abbrev pub new_clients : ℕ → List ClientState
new_clients zero = []
new_clients (suc n) = new_client ∷ new_clients n

-- nothing was posted or sent
abbrev pub start : ℕ → World
start n = record { server = new_server; clients = new_clients n; pool = [] }

-- the world of so many clients after these steps
abbrev pub run : ℕ → List Step → World
run n steps = run_from (start n) steps
