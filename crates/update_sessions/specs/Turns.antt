-- One packet of a session, apart from any link: what a side makes of it, and what it sends. This project's own.
use Rattle.std.specs.Prelude.{◌≡◌, ◌≢◌, ◌⊎◌, ℕ, List, [], Option, Some, Result, Ok, Err}
use Rattle.box_events.specs.declared.replies.Frame.{Frame}
use Rattle.box_events.specs.declared.requests.Numbered.{Numbered}
use Rattle.box_server.specs.Servers.{ServerState}
use Rattle.box_server.specs.declared.entry.Entry.{Entry}
use Rattle.box_server.specs.Keeping.{with_more}
use Rattle.box_client.specs.States.{ClientState}
use Rattle.box_client.specs.declared.fault.ClientFault.{ClientFault}
use Rattle.tl_base.specs.declared.fault.Fault.{Fault}
use Rattle.tl_base.specs.declared.fault.Fault.TheVariants as fault
use Rattle.wire_profile.specs.Indexes.{ProfileView}
use Rattle.box_wire.specs.Kinds.{calls, frames}
use Rattle.box_wire.specs.Framing.{WireRefused}
use Rattle.update_sessions.specs.declared.fault.SessionFault.{SessionFault}
use Rattle.update_sessions.specs.declared.fault.SessionFault.TheVariants.{Packet, Wire, Client, TooManyFrames, LinkFault}
use Rattle.update_sessions.specs.declared.storing.StoreSession.{StoreSession}
use Rattle.update_sessions.specs.declared.storing.StoreSession.TheVariants as store
use Rattle.update_sessions.specs.Packed.{Packed, MeansCall, MeansFrame}
use Rattle.update_sessions.specs.Exchanges.{Side}
use Rattle.update_sessions.specs.Hearing.{cause_of, client_side}
use Rattle.update_sessions.specs.Serving.{after_request, server_side}
use Rattle.update_sessions.specs.Kept.{kept_for}

-- the bytes mean a message that the side takes, these are the packets of all that it sends for that, and this is the side after it
pub record Turned {S M N : Type 0} (side : Side S M N) (s : S) (bytes out : List ℕ) (t : S) : Type 0 where
  pub message : M
  pub means : side.means message bytes
  pub taken : side.takes s message
  pub sent : Packed side.spells (side.sends s message) out
  pub ends : t ≡ side.next s message

-- ---- a client

-- the bytes mean a frame that a client refuses for this fault
pub record RefusesFrame (p : ProfileView) (c : ClientState) (bytes : List ℕ) (fault : ClientFault) : Type 0 where
  pub frame : Frame
  pub means : MeansFrame p frame bytes
  pub refuses : cause_of c frame ≡ Some fault

-- What a client that asks makes of a packet's bytes: it takes their frame, and sends what is due then; or why it takes none, which leaves it as it was. Out of
-- memory is free.
abbrev pub HearsPacket : ProfileView → ClientState → List ℕ → List ℕ → ClientState → Result (Unit {0}) (Fault SessionFault) → Type 0
HearsPacket p c bytes out d (Ok u) = Turned (client_side p) c bytes out d
HearsPacket p c bytes out d (Err (fault.Refused (Wire f))) = WireRefused p frames bytes f × (d ≡ c)
HearsPacket p c bytes out d (Err (fault.Refused (Client f))) = RefusesFrame p c bytes f × (d ≡ c)
HearsPacket p c bytes out d (Err (fault.Refused (Packet f))) = ⊥
HearsPacket p c bytes out d (Err (fault.Refused TooManyFrames)) = ⊥
HearsPacket p c bytes out d (Err (fault.Refused LinkFault)) = ⊥
HearsPacket p c bytes out d (Err fault.Memory) = Unit {0}

-- ---- a server whose posts are kept

-- the bytes mean a call that is taken and kept, and nothing is said of what is sent for it
pub record TakesUnsent (p : ProfileView) (s : ServerState) (bytes : List ℕ) (entries now_entries : Option (List Entry)) (t : ServerState) : Type 0 where
  pub call : Numbered
  pub means : MeansCall p call bytes
  pub ends : t ≡ after_request s call.request
  pub kept : now_entries ≡ with_more (kept_for s call.request) entries

-- the bytes mean a post that would be kept, and nothing was taken
pub record LosesPost (p : ProfileView) (s : ServerState) (bytes : List ℕ) (entries now_entries : Option (List Entry)) (t : ServerState) : Type 0 where
  pub call : Numbered
  pub means : MeansCall p call bytes
  pub new : kept_for s call.request ≢ []
  pub ends : t ≡ s
  pub kept : now_entries ≡ entries

-- What a server makes of a packet's bytes: it takes their call, a new post is kept, and all that is sent for it is there; or why not. A refused packet
-- changes nothing. Where memory runs out either nothing is taken, or the call is and its post is kept.
abbrev pub AnswersPacket : ProfileView → ServerState → List ℕ → List ℕ → Option (List Entry) → Option (List Entry) → ServerState → Result (Unit {0}) StoreSession → Type 0
AnswersPacket p s bytes out entries now_entries t (Ok u) = (turn : Turned (server_side p) s bytes out t) × (now_entries ≡ with_more (kept_for s turn.message.request) entries)
AnswersPacket p s bytes out entries now_entries t (Err (store.Session (Wire fault))) = WireRefused p calls bytes fault × (t ≡ s) × (now_entries ≡ entries)
AnswersPacket p s bytes out entries now_entries t (Err (store.Session (Client fault))) = ⊥
AnswersPacket p s bytes out entries now_entries t (Err (store.Session (Packet fault))) = ⊥
AnswersPacket p s bytes out entries now_entries t (Err (store.Session TooManyFrames)) = ⊥
AnswersPacket p s bytes out entries now_entries t (Err (store.Session LinkFault)) = ⊥
AnswersPacket p s bytes out entries now_entries t (Err store.Memory) = ((t ≡ s) × (now_entries ≡ entries)) ⊎ TakesUnsent p s bytes entries now_entries t
AnswersPacket p s bytes out entries now_entries t (Err store.Failed) = LosesPost p s bytes entries now_entries t
