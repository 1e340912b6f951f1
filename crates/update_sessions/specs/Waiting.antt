-- A conversation of a client's session and a server's, apart from any link: which messages are on their way, and that the two never wait for each
-- other. This project's own.
use Rattle.std.specs.Prelude.{◌≡◌, ◌≢◌, ◌⊎◌, ℕ, List, [], ◌∷◌, ◌++◌, true, false, Some}
use Rattle.box_events.specs.declared.replies.Frame.{Frame}
use Rattle.box_events.specs.declared.replies.Frame.TheVariants.{Push, Reply}
use Rattle.box_events.specs.declared.requests.Numbered.{Numbered}
use Rattle.box_events.specs.declared.requests.Request.{Request}
use Rattle.box_server.specs.Servers.{ServerState}
use Rattle.box_client.specs.Asking.{is_one_asking, ticks, wakes}
use Rattle.box_client.specs.States.{ClientState}
use Rattle.box_world.specs.Streams.{asked_by, begun}
use Rattle.update_sessions.specs.Hearing.{IsTaken, hears}
use Rattle.update_sessions.specs.Serving.{after_request, sent_for}

-- a client, a server, and in order the calls on their way to the server and the frames on their way to the client
pub record Conversation : Type 0 where
  pub client : ClientState
  pub server : ServerState
  pub calls : List Numbered
  pub frames : List Frame

-- it begins: all that the client asks at first is on its way
abbrev pub opening : ClientState → ServerState → Conversation
opening c s = record { client = begun c; server = s; calls = (ticks (wakes c)).asks; frames = [] }

-- the server takes a call before these, and all that is sent for it is on its way
abbrev pub after_call : Conversation → Numbered → List Numbered → Conversation
after_call v q qs = record { client = v.client; server = after_request v.server q.request; calls = qs; frames = v.frames ++ sent_for v.server q.number q.request }

-- the client takes a frame before these, and what is due then is on its way
abbrev pub after_frame : Conversation → Frame → List Frame → Conversation
after_frame v f fs = record { client = (ticks (hears v.client f)).client; server = v.server; calls = v.calls ++ (ticks (hears v.client f)).asks; frames = fs }

-- One of the two takes the first message on its way to it. A client that refuses a frame, or asks no more, takes none.
pub data Turn (v w : Conversation) : Type 0 where
  server_takes : (q : Numbered) (qs : List Numbered) → v.calls ≡ q ∷ qs → w ≡ after_call v q qs → Turn v w
  client_takes : (f : Frame) (fs : List Frame) → v.frames ≡ f ∷ fs → IsTaken v.client f → w ≡ after_frame v f fs → Turn v w

-- turn by turn it comes to each of these, and to the last
abbrev pub Reaches : Conversation → List Conversation → Conversation → Type 0
Reaches v [] w = w ≡ v
Reaches v (x ∷ xs) w = Turn v x × Reaches x xs w

-- a call of this number is among these, or a reply to it
abbrev pub IsCalled : ℕ → List Numbered → Type 0
IsCalled n [] = ⊥
IsCalled n (q ∷ qs) = (q.number ≡ n) ⊎ IsCalled n qs

abbrev pub IsReplied : ℕ → List Frame → Type 0
IsReplied n [] = ⊥
IsReplied n (Push p ∷ fs) = IsReplied n fs
IsReplied n (Reply m r ∷ fs) = (m ≡ n) ⊎ IsReplied n fs

-- each request that the client has open is on its way to the server, or a reply to it is on its way back
abbrev pub OpenAreOnTheirWay : Conversation → Type 0
OpenAreOnTheirWay v = (n : ℕ) (r : Request) → asked_by v.client n ≡ Some r → IsCalled n v.calls ⊎ IsReplied n v.frames

-- one of the two has something to take
abbrev pub HasMessage : Conversation → Type 0
HasMessage v = (v.calls ≢ []) ⊎ (v.frames ≢ [])

-- where the client waited for nothing before, its open requests are on their way through the whole of a conversation,
abbrev pub RequestsAreNeverLost : Type 0
RequestsAreNeverLost = (c : ClientState) (s : ServerState) (passed : List Conversation) (v : Conversation) → is_one_asking c ≡ false → Reaches (opening c s) passed v → OpenAreOnTheirWay v

-- and it never is so that the client still asks and both wait
abbrev pub NeverBothWait : Type 0
NeverBothWait = (c : ClientState) (s : ServerState) (passed : List Conversation) (v : Conversation) → is_one_asking c ≡ false → Reaches (opening c s) passed v → is_one_asking v.client ≡ true → HasMessage v
