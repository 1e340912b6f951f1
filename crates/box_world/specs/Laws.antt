-- Laws of worlds. This project's own.
use Rattle.std.specs.Prelude.{◌≡◌, ◌≢◌, ◌≤◌, ℕ, ℤ, ◌+◌, ◌*◌, List, [], ◌∷◌, ◌++◌, length, true, false, Some, None, slice_get}
use Rattle.box_events.specs.declared.limits.TheConstants.{MAX_ASKS, MAX_CHANNELS}
use Rattle.std.specs.FinMap as map
use Rattle.box_events.specs.declared.positions.Receipt.{Receipt}
use Rattle.box_events.specs.declared.requests.Post.{Post}
use Rattle.box_events.specs.declared.replies.Reply.{Reply}
use Rattle.box_events.specs.declared.replies.Reply.TheVariants.{Channel}
use Rattle.box_events.specs.declared.replies.ChannelReply.{ChannelReply}
use Rattle.box_events.specs.declared.steps.Step.{Step}
use Rattle.box_events.specs.declared.steps.Step.TheVariants as step
use Rattle.channel_box.specs.States.{ChannelState, first}
use Rattle.channel_box.specs.Steps.{at_first, asks_number, is_asking}
use Rattle.box_server.specs.Servers.{ServerState, channel_end, channel_in}
use Rattle.box_server.specs.Refusing.{post_cause}
use Rattle.box_server.specs.declared.fault.PostFault.{PostFault}
use Rattle.box_client.specs.States.{ClientState, new_client}
use Rattle.box_client.specs.Replies.{refuses, becomes, replied}
use Rattle.box_client.specs.declared.fault.ClientFault.{ClientFault}
use Rattle.box_client.specs.Ranges.{IsPushInRange, IsReplyInRange}
use Rattle.box_world.specs.Worlds.{Packet, push, request, reply, World, happens, run, start}
use Rattle.box_world.specs.Possible.{AllPossible, Possible}
use Rattle.box_world.specs.Agreeing.{Agrees, Boxes, IsPast, is_final, is_last_part}
use Rattle.box_world.specs.Growing.{Continues, IsLedger}
use Rattle.box_world.specs.Awaiting.{Still}
use Rattle.box_world.specs.Reached.{PacketFits, boxes_of}

-- a new client agrees with every server
abbrev pub NewClientsAgree : Type 0
NewClientsAgree = (s : ServerState) (boxes : Boxes) → Agrees s boxes new_client

-- a client that agrees with a server agrees with it as it goes on
abbrev pub AgreeAsServersGrow : Type 0
AgreeAsServersGrow = (s t : ServerState) (before after : Boxes) (c : ClientState) → Continues s t before after → Agrees s before c → Agrees t after c

-- what a client does by itself keeps it in agreement
abbrev pub AgreeAsClientsGoOn : (ClientState → ClientState) → Type 0
AgreeAsClientsGoOn f = (s : ServerState) (boxes : Boxes) (c : ClientState) → Agrees s boxes c → Agrees s boxes (f c)

-- and leaves it where its requests say
abbrev pub StillAsClientsGoOn : (ClientState → ClientState) → Type 0
StillAsClientsGoOn f = (c : ClientState) → Still c (f c)

-- ---- every world that steps lead to

-- each client agrees with the server, after every list of steps
abbrev pub ClientsAgree : Type 0
ClientsAgree = (n : ℕ) (steps : List Step) (k : ℕ) (c : ClientState) → slice_get (run n steps).clients k ≡ Some c → Agrees (run n steps).server (boxes_of (run n steps)) c

-- whatever was sent is so as it was sent: pushes lie in their boxes, a request asks from where its client stands, a reply is an earlier server's answer to a request
abbrev pub PacketsFit : Type 0
PacketsFit = (n : ℕ) (steps : List Step) (m : ℕ) (p : Packet) → slice_get (run n steps).pool m ≡ Some p → PacketFits (run n steps).server (boxes_of (run n steps)) (run n steps).clients p

-- no client refuses a reply that was sent to it, whenever it comes
abbrev pub RepliesAreTaken : Type 0
RepliesAreTaken = (n : ℕ) (steps : List Step) (m k number : ℕ) (r : Reply) (s : ServerState) (c : ClientState) (cause : ClientFault) → slice_get (run n steps).pool m ≡ Some (reply k number r s)
    → slice_get (run n steps).clients k ≡ Some c → replied c number r ≢ refuses cause

-- with the last part of a difference, whenever it comes, a client stands at or past where the server was when it answered
abbrev pub ClientsCatchUp : Type 0
ClientsCatchUp = (n : ℕ) (steps : List Step) (m k number : ℕ) (r : Reply) (s : ServerState) (c d : ClientState) → slice_get (run n steps).pool m ≡ Some (reply k number r s) → slice_get (run n steps).clients k ≡ Some c
    → is_final r ≡ true → replied c number r ≡ becomes d → IsPast s d

-- the same of a channel: where the group doesn't ask the number and a channel does, that channel takes the reply, and with the last part it stands
-- at or past where the channel's box ended in the server that answered
abbrev pub ChannelsCatchUp : Type 0
ChannelsCatchUp = (n : ℕ) (steps : List Step) (m k number : ℕ) (v : ChannelReply) (s : ServerState) (c : ClientState) (d : ChannelState) → slice_get (run n steps).pool m ≡ Some (reply k number (Channel v) s)
    → slice_get (run n steps).clients k ≡ Some c → is_asking number c.common.mode ≡ false → first (asks_number number) c.channels ≡ Some d → is_last_part v ≡ true
    → (e : ChannelState) × (e.id ≡ d.id) × (replied c number (Channel v) ≡ becomes (record c { channels = at_first (asks_number number) (λ _. e) c.channels })) × (channel_end (channel_in s.channels d.id) ≤ e.lane.at)

-- a post under a known id changes nothing, and neither does a refused one
abbrev pub KnownPostsChangeNothing : Type 0
KnownPostsChangeNothing = (w : World) (random_id : ℤ) (posts : List Post) (receipt : Receipt) → map.get w.server.receipts random_id ≡ Some receipt → happens w (step.Post random_id posts) ≡ w

abbrev pub RefusedPostsChangeNothing : Type 0
RefusedPostsChangeNothing = (w : World) (random_id : ℤ) (posts : List Post) (cause : PostFault) → map.get w.server.receipts random_id ≡ None → post_cause w.server posts ≡ Some cause → happens w (step.Post random_id posts) ≡ w

-- the numbers of a packet are those that the calls of a client take
abbrev pub IsPacketInRange : Packet → Type 0
IsPacketInRange (push p) = IsPushInRange p
IsPacketInRange (request k n) = Unit {0}
IsPacketInRange (reply k n r s) = IsReplyInRange r

abbrev pub PacketsAreInRange : Type 0
PacketsAreInRange = (n : ℕ) (steps : List Step) (m : ℕ) (p : Packet) → slice_get (run n steps).pool m ≡ Some p → IsPacketInRange p

-- a client watches no more channels than it may, and gives so many numbers at a tick at most
abbrev pub NumbersStayBelow : Type 0
NumbersStayBelow = (n : ℕ) (steps : List Step) (k : ℕ) (c : ClientState) → slice_get (run n steps).clients k ≡ Some c → (length c.channels ≤ MAX_CHANNELS) × (c.next ≤ 1 + MAX_ASKS * length steps)

-- the server's events count, its last 500 of each channel are the last of the whole box, and the dates of its settings never fall
abbrev pub ServersKeepOrder : Type 0
ServersKeepOrder = (n : ℕ) (steps : List Step) → IsLedger (run n steps).server (boxes_of (run n steps))

-- further steps only add to the server's boxes, and to the packets that were sent
abbrev pub WorldsGrow : Type 0
WorldsGrow = (n : ℕ) (steps later : List Step) → Continues (run n steps).server (run n (steps ++ later)).server (boxes_of (run n steps)) (boxes_of (run n (steps ++ later)))

-- a client's next number is at most one more than the packets that were sent
abbrev pub NextStaysBelow : Type 0
NextStaysBelow = (n : ℕ) (steps : List Step) (k : ℕ) (c : ClientState) → slice_get (run n steps).clients k ≡ Some c → c.next ≤ 1 + length (run n steps).pool

-- ---- one more step

-- the world after steps and one more is that step of the world after the steps
abbrev pub RunsGoOn : Type 0
RunsGoOn = (n : ℕ) (steps : List Step) (s : Step) → run n (steps ++ s ∷ []) ≡ happens (run n steps) s

-- a possible step after possible steps is one more of them
abbrev pub PossibleGoOn : Type 0
PossibleGoOn = (size : Packet → ℕ) (n : ℕ) (steps : List Step) (s : Step) → AllPossible size (start n) steps → Possible size (run n steps) s → AllPossible size (start n) (steps ++ s ∷ [])

-- there are as many clients as at the start
abbrev pub ClientsStay : Type 0
ClientsStay = (n : ℕ) (steps : List Step) → length (run n steps).clients ≡ n
