-- What one step of a store's session does to its link, its server and its entries. This project's own.
use Rattle.std.specs.Prelude.{◌≡◌, ◌≢◌, ℕ, ◌≤◌, List, [], ◌∷◌, length, Bool, true, false, Option, Some, None, IfSome, Result, Ok, Err}
use Rattle.box_world.specs.Sizes.{frame_size}
use Rattle.box_events.specs.declared.limits.TheConstants.{MAX_FRAME_BYTES}
use Rattle.box_events.specs.declared.replies.Frame.{Frame}
use Rattle.box_events.specs.declared.requests.Numbered.{Numbered}
use Rattle.box_events.specs.declared.requests.Request.{Request}
use Rattle.box_server.specs.Servers.{ServerState}
use Rattle.box_server.specs.declared.entry.Entry.{Entry}
use Rattle.box_server.specs.Keeping.{with_more}
use Rattle.box_server.specs.declared.store_fault.KeepFault.{KeepFault}
use Rattle.box_server.specs.declared.store_fault.KeepFault.TheVariants as keeping
use Rattle.tl_base.specs.declared.fault.Fault.{Fault}
use Rattle.tl_base.specs.declared.fault.Fault.TheVariants.{Refused, Memory}
use Rattle.wire_profile.specs.Indexes.{ProfileView}
use Rattle.box_wire.specs.Kinds.{calls}
use Rattle.box_wire.specs.Framing.{WireRefused}
use Rattle.update_sessions.specs.declared.answering.CallAnswer.{CallAnswer}
use Rattle.update_sessions.specs.declared.fault.SessionFault.{SessionFault}
use Rattle.update_sessions.specs.declared.fault.SessionFault.TheVariants.{Packet, Wire, Client, TooManyFrames, LinkFault}
use Rattle.update_sessions.specs.declared.storing.StoreSession.{StoreSession}
use Rattle.update_sessions.specs.declared.storing.StoreSession.TheVariants as store
use Rattle.update_sessions.specs.Exchanges.{after_all}
use Rattle.update_sessions.specs.Kept.{StoreEnd, ended, keeper_failed, kept_for, kept_in}
use Rattle.update_sessions.specs.Links.{OverLink}
use Rattle.update_sessions.specs.Packed.{MeansCall, NoPacket}
use Rattle.update_sessions.specs.Receiving.{ComesFirst, RefusedPacket}
use Rattle.update_sessions.specs.Serving.{after_request, sent_for, server_side}
use Rattle.update_sessions.specs.inner.Steps.{BreaksOff, SoFar, Unmoved}

-- ---- a call

-- a frame, where there is one
abbrev pub if_any : Option Frame → List Frame
if_any None = []
if_any (Some f) = f ∷ []

-- what is sent for a call, in order
abbrev pub frames_in : CallAnswer → List Frame
frames_in x = x.reply ∷ if_any x.push

-- each of these is short enough for a packet
pub record AreShort (x : CallAnswer) : Type 0 where
  pub reply : frame_size x.reply ≤ MAX_FRAME_BYTES
  pub push : IfSome x.push (λ f. frame_size f ≤ MAX_FRAME_BYTES)

-- these are sent
pub record Sends (x : CallAnswer) (fs : List Frame) : Type 0 where
  pub frames : frames_in x ≡ fs
  pub short : AreShort x

-- a store takes a call: what is sent for it, the server and the entries after it
pub record Took (s : ServerState) (n : ℕ) (r : Request) (entries now_entries : Option (List Entry)) (t : ServerState) (x : CallAnswer) : Type 0 where
  pub sends : Sends x (sent_for s n r)
  pub server : t ≡ after_request s r
  pub appended : now_entries ≡ with_more (kept_for s r) entries

-- where memory runs out, or the keeper fails at a post that would be kept, nothing is taken
abbrev pub TakesCall : ServerState → ℕ → Request → Option (List Entry) → Option (List Entry) → ServerState → Result CallAnswer KeepFault → Type 0
TakesCall s n r entries now_entries t (Ok x) = Took s n r entries now_entries t x
TakesCall s n r entries now_entries t (Err keeping.Memory) = (t ≡ s) × (now_entries ≡ entries)
TakesCall s n r entries now_entries t (Err keeping.Failed) = (kept_for s r ≢ []) × (t ≡ s) × (now_entries ≡ entries)

-- ---- a step

-- a fault of its server's session ends a store's so
abbrev pub of_session : Fault SessionFault → StoreSession
of_session (Refused fault) = store.Session fault
of_session Memory = store.Memory

-- why a server takes no call, or not all is written that is sent for it
abbrev pub ServesNone : ProfileView → ServerState → List ℕ → List ℕ → ServerState → SessionFault → List Numbered → Type 0
ServesNone p s bytes out t (Packet fault) cs = Unmoved s out t × NoPacket bytes fault × (cs ≡ [])
ServesNone p s bytes out t (Wire fault) cs = Unmoved s out t × RefusedPacket (WireRefused p calls) bytes fault × (cs ≡ [])
ServesNone p s bytes out t (Client fault) cs = ⊥
ServesNone p s bytes out t TooManyFrames cs = ⊥
ServesNone p s bytes out t LinkFault cs = BreaksOff (server_side p) s bytes out t cs

-- a post comes that would be kept, and nothing is written
pub record KeeperFails (p : ProfileView) (s : ServerState) (bytes out : List ℕ) : Type 0 where
  pub last : Numbered
  pub rest : List ℕ
  pub comes : ComesFirst (MeansCall p) last bytes rest
  pub new : kept_for s last.request ≢ []
  pub wrote : out ≡ []

-- a call is answered; the bytes have ended; a fault; or the keeper fails
abbrev pub NextOver : ProfileView → ServerState → Option (List ℕ) → Option (List ℕ) → Option (List ℕ) → Option (List ℕ) → List Numbered → StoreEnd Bool → Type 0
NextOver p s left written left_now written_now cs (ended t (Ok true)) = (length cs ≡ 1) × (t ≡ after_all (server_side p) s cs) × SoFar (server_side p) s cs left written left_now written_now t
NextOver p s left written left_now written_now cs (ended t (Ok false)) = (cs ≡ []) × OverLink left written written_now (λ bytes out. Unmoved s out t × (bytes ≡ []))
NextOver p s left written left_now written_now cs (ended t (Err fault)) = OverLink left written written_now (λ bytes out. ServesNone p s bytes out t fault cs)
NextOver p s left written left_now written_now cs (keeper_failed t) = (cs ≡ []) × (t ≡ s) × OverLink left written written_now (λ bytes out. KeeperFails p s bytes out)

-- one step, with the call that was taken, if there is one
pub record StoresNext (p : ProfileView) (s : ServerState) (left written left_now written_now : Option (List ℕ)) (entries now_entries : Option (List Entry)) (end : StoreEnd Bool) : Type 0 where
  pub calls : List Numbered
  pub link : NextOver p s left written left_now written_now calls end
  pub appended : now_entries ≡ with_more (kept_in s calls) entries

-- so many steps, in each of which a call was answered
pub record StoreSoFar (p : ProfileView) (s : ServerState) (n : ℕ) (left written left_now written_now : Option (List ℕ)) (entries now_entries : Option (List Entry)) (t : ServerState) : Type 0 where
  pub calls : List Numbered
  pub count : length calls ≡ n
  pub server : t ≡ after_all (server_side p) s calls
  pub link : SoFar (server_side p) s calls left written left_now written_now t
  pub appended : now_entries ≡ with_more (kept_in s calls) entries
