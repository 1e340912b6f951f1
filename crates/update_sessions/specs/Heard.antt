-- A session of a client over a link: what it reads and writes, and how it ends. This project's own.
use Rattle.std.specs.Prelude.{◌≡◌, ◌⊎◌, ℕ, ◌<◌, ◌≤◌, List, [], ◌∷◌, ◌++◌, length, true, false, Some, Result, Ok, Err}
use Rattle.tl_base.specs.declared.packet.PacketCause.{PacketCause}
use Rattle.tl_base.specs.declared.packet.PacketCause.TheVariants.{Ended}
use Rattle.box_events.specs.declared.replies.Frame.{Frame}
use Rattle.box_client.specs.States.{ClientState}
use Rattle.box_client.specs.Asking.{ticks, wakes, is_one_asking}
use Rattle.box_client.specs.declared.fault.ClientFault.{ClientFault}
use Rattle.box_world.specs.Streams.{begun}
use Rattle.wire_profile.specs.Indexes.{ProfileView}
use Rattle.box_wire.specs.Kinds.{frames}
use Rattle.box_wire.specs.Framing.{WireRefused}
use Rattle.update_sessions.specs.declared.fault.SessionFault.{SessionFault}
use Rattle.update_sessions.specs.declared.fault.SessionFault.TheVariants.{Packet, Wire, Client, TooManyFrames, LinkFault}
use Rattle.update_sessions.specs.declared.fault.TheConstants.{MAX_FRAMES}
use Rattle.update_sessions.specs.Packed.{Packed, PartlyPacked, NoPacket, MeansFrame, SpellsCall}
use Rattle.update_sessions.specs.Exchanges.{Exchanged, Broken, MaySend}
use Rattle.update_sessions.specs.Receiving.{RefusedPacket, ComesFirst}
use Rattle.update_sessions.specs.Hearing.{cause_of, client_side}

-- the bytes begin with no packet, or have ended
abbrev pub NoFrame : List ℕ → PacketCause → Type 0
NoFrame bytes fault = ((bytes ≡ []) × (fault ≡ Ended 0)) ⊎ NoPacket bytes fault

-- a frame comes that the client refuses for this fault
pub record RefusedFrame (p : ProfileView) (c : ClientState) (bytes : List ℕ) (f : Frame) (fault : ClientFault) : Type 0 where
  pub rest : List ℕ
  pub comes : ComesFirst (MeansFrame p) f bytes rest
  pub refuses : cause_of c f ≡ Some fault

-- these frames were taken, the client still asks, and this is left
pub record StillAsks (p : ProfileView) (c : ClientState) (bytes left out : List ℕ) (d : ClientState) (fs : List Frame) : Type 0 where
  pub exchanged : Exchanged (client_side p) c bytes left out d fs
  pub asking : is_one_asking d ≡ true
  pub few : length fs < MAX_FRAMES

-- What a client that has asked does over a link that gives these bytes: the frames that it took, the one that it refused, if there is one, what was
-- written, and the client after that. A refused frame changes nothing.
abbrev pub HearsOn : ProfileView → ClientState → List ℕ → List ℕ → ClientState → Result ℕ SessionFault → List Frame → List Frame → Type 0
HearsOn p c bytes out d (Ok n) fs last = (left : List ℕ) × Exchanged (client_side p) c bytes left out d fs × (is_one_asking d ≡ false) × (n ≡ length fs) × (n ≤ MAX_FRAMES) × (last ≡ [])
HearsOn p c bytes out d (Err (Packet fault)) fs last = (left : List ℕ) × StillAsks p c bytes left out d fs × NoFrame left fault × (last ≡ [])
HearsOn p c bytes out d (Err (Wire fault)) fs last = (left : List ℕ) × StillAsks p c bytes left out d fs × RefusedPacket (WireRefused p frames) left fault × (last ≡ [])
HearsOn p c bytes out d (Err (Client fault)) fs last = (left : List ℕ) × (f : Frame) × StillAsks p c bytes left out d fs × RefusedFrame p d left f fault × (last ≡ f ∷ [])
HearsOn p c bytes out d (Err TooManyFrames) fs last = (left : List ℕ) × Exchanged (client_side p) c bytes left out d fs × (is_one_asking d ≡ true) × (length fs ≡ MAX_FRAMES) × (last ≡ [])
HearsOn p c bytes out d (Err LinkFault) fs last = Broken (client_side p) c bytes out d fs × (last ≡ [])

-- A session: all is asked about, and then frames are heard; or it breaks off before the first is looked at.
pub data Hears (p : ProfileView) (c : ClientState) (bytes out : List ℕ) (d : ClientState) (result : Result ℕ SessionFault) (fs last : List Frame) : Type 0 where
  broke_off : result ≡ Err LinkFault → PartlyPacked (SpellsCall p) (ticks (wakes c)).asks out → d ≡ begun c → fs ≡ [] → last ≡ [] → Hears p c bytes out d result fs last
  asked : (first more : List ℕ) → Packed (SpellsCall p) (ticks (wakes c)).asks first → out ≡ first ++ more → HearsOn p (begun c) bytes more d result fs last → Hears p c bytes out d result fs last

-- what may be written: what is asked at first, and all that is asked after frames that come first
pub record MayAsk (p : ProfileView) (c : ClientState) (bytes out : List ℕ) : Type 0 where
  pub first : List ℕ
  pub more : List ℕ
  pub asked : Packed (SpellsCall p) (ticks (wakes c)).asks first
  pub parts : out ≡ first ++ more
  pub then_asked : MaySend (client_side p) (begun c) bytes more
