-- What a client hears from an honest server, frame by frame. This project's own.
use Rattle.std.specs.Prelude.{◌≡◌, ◌≢◌, ◌≤◌, ◌<◌, ℕ, zero, suc, ℤ, pos, List, [], ◌∷◌, ◌++◌, length, cond, Option, Some, None, slice_get}
use Rattle.std.specs.FinMap as map
use Rattle.box_events.specs.declared.positions.Receipt.{Receipt}
use Rattle.box_events.specs.declared.requests.Post.{Post}
use Rattle.box_events.specs.declared.requests.Request.{Request}
use Rattle.box_events.specs.declared.requests.Request.TheVariants.{Channel}
use Rattle.box_events.specs.declared.replies.Reply.{Reply}
use Rattle.box_events.specs.declared.updates.Push.{Push}
use Rattle.box_events.specs.declared.updates.Push.TheVariants.{TooLong, Container}
use Rattle.box_events.specs.declared.updates.Update.TheVariants.{ChannelTooLong}
use Rattle.channel_box.specs.States.{ChannelState, first}
use Rattle.channel_box.specs.Steps.{is_asking, asks_number}
use Rattle.box_server.specs.declared.fault.PostFault.{PostFault}
use Rattle.box_server.specs.Servers.{ServerState, new_server, dated_at}
use Rattle.box_server.specs.Entries.{entries_of}
use Rattle.box_server.specs.Posting.{posted, push_of}
use Rattle.box_server.specs.Refusing.{post_cause}
use Rattle.box_server.specs.Answers.{answer}
use Rattle.box_server.specs.Growing.{channel_events}
use Rattle.box_client.specs.States.{ClientState}
use Rattle.box_client.specs.Pushes.{pushed}
use Rattle.box_client.specs.Replies.{refuses, replied}
use Rattle.box_client.specs.declared.fault.ClientFault.{ClientFault}
use Rattle.box_client.specs.Asking.{difference_of, ticks, wakes}
use Rattle.box_world.specs.Worlds.{after_reply}
use Rattle.box_world.specs.Agreeing.{Boxes, Agrees}

-- ---- a server's history

-- what was done to a server: posts under a random id, or a date that was set
pub data Doing : Type 0 where
  posts : ℤ → List Post → Doing
  dates : ℕ → Doing

-- a server, and the whole boxes of its channels
pub record Past : Type 0 where
  pub server : ServerState
  pub boxes : Boxes

-- the whole boxes after a post
abbrev pub with_posts : Boxes → List Post → Boxes
with_posts boxes ps id = boxes id ++ channel_events id (entries_of ps)

-- a known post and a refused one change nothing
abbrev pub posted_by : Past → ℤ → List Post → Option Receipt → Option PostFault → Past
posted_by p random_id ps (Some receipt) cause = p
posted_by p random_id ps None (Some cause) = p
posted_by p random_id ps None None = record { server = posted p.server random_id ps; boxes = with_posts p.boxes ps }

abbrev pub done : Past → Doing → Past
done p (posts random_id ps) = posted_by p random_id ps (map.get p.server.receipts random_id) (post_cause p.server ps)
done p (dates date) = record p { server = dated_at p.server date }

-- after the first m of them
abbrev pub done_all : Past → List Doing → ℕ → Past
done_all p h zero = p
done_all p [] (suc m) = p
done_all p (x ∷ h) (suc m) = done_all (done p x) h m

-- nothing was posted
abbrev pub first_past : Past
first_past = record { server = new_server; boxes = λ id. [] }

-- a server after the first m of its history
abbrev pub past_of : List Doing → ℕ → Past
past_of h m = done_all first_past h m

-- ---- what a client hears

pub data Frame : Type 0 where
  told_push : Push → Frame
  told_reply : ℕ → Reply → Frame

-- a client hears a frame, and asks for what is due
abbrev pub heard_frame : ClientState → Frame → ClientState
heard_frame c (told_push p) = (ticks (pushed c p)).client
heard_frame c (told_reply n r) = (ticks (after_reply c (replied c n r))).client

-- as a session begins, all is asked about
abbrev pub begun : ClientState → ClientState
begun c = (ticks (wakes c)).client

-- ---- honest servers

-- the push of one of the first k posts of the history, or one that tells that too much is new
pub data IsHonestPush (h : List Doing) (k : ℕ) (p : Push) : Type 0 where
  of_post : (i : ℕ) (random_id : ℤ) (ps : List Post) → i < k → slice_get h i ≡ Some (posts random_id ps) → map.get (past_of h i).server.receipts random_id ≡ None → post_cause (past_of h i).server ps ≡ None
      → p ≡ push_of (past_of h i).server ps → IsHonestPush h k p
  too_long : p ≡ TooLong → IsHonestPush h k p
  channel_too_long : (id : ℤ) (date : ℕ) → p ≡ Container (ChannelTooLong id ∷ []) date 0 0 → IsHonestPush h k p

abbrev pub channel_request : Option ChannelState → Option Request
channel_request None = None
channel_request (Some d) = Some (Channel d.id (pos d.lane.at))

-- what a client asks by a number; none where nobody asks it
abbrev pub asked_by : ClientState → ℕ → Option Request
asked_by c n = cond (is_asking n c.common.mode) (Some (difference_of c).request) (channel_request (first (asks_number n) c.channels))

-- A reply to a number that is asked is the answer of the server after the first k of its history. Other replies are free.
abbrev pub IsHonestFrame : List Doing → ClientState → ℕ → Frame → Type 0
IsHonestFrame h c k (told_push p) = IsHonestPush h k p
IsHonestFrame h c k (told_reply n v) = (r : Request) → asked_by c n ≡ Some r → v ≡ answer (past_of h k).server r

-- each frame is honest at a moment of the history, not before those of the frames before it
abbrev pub Honest : List Doing → ClientState → ℕ → List Frame → Type 0
Honest h c m [] = Unit {0}
Honest h c m (f ∷ fs) = (k : ℕ) × (m ≤ k) × (k ≤ length h) × IsHonestFrame h c k f × Honest h (heard_frame c f) k fs

-- ---- what is to hold

abbrev pub IsTaken : ClientState → Frame → Type 0
IsTaken c (told_push p) = Unit {0}
IsTaken c (told_reply n v) = (cause : ClientFault) → replied c n v ≢ refuses cause

-- before and after each frame the client agrees, and it refuses none
abbrev pub AgreesThrough : Past → ClientState → List Frame → Type 0
AgreesThrough p c [] = Agrees p.server p.boxes c
AgreesThrough p c (f ∷ fs) = Agrees p.server p.boxes c × IsTaken c f × AgreesThrough p (heard_frame c f) fs

-- a client that agrees with a server as it was agrees with it after all of its history, over every honest stream
abbrev pub HonestStreamsAgree : Type 0
HonestStreamsAgree = (h : List Doing) (c : ClientState) (m : ℕ) (frames : List Frame) → m ≤ length h → Agrees (past_of h m).server (past_of h m).boxes c → Honest h (begun c) m frames
    → AgreesThrough (past_of h (length h)) (begun c) frames
