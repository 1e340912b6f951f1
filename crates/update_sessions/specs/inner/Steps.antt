-- What one step of a session does to its link and its side. This project's own.
use Rattle.std.specs.Prelude.{◌≡◌, ℕ, ◌≤◌, List, [], ◌++◌, length, Option, Some, None, Result, Ok, Err}
use Rattle.std.specs.Io.KnownBytes.{Appends}
use Rattle.tl_base.specs.Packets.{packet}
use Rattle.box_events.specs.declared.replies.Frame.{Frame}
use Rattle.box_client.specs.States.{ClientState}
use Rattle.box_client.specs.declared.fault.ClientFault.{ClientFault}
use Rattle.tl_base.specs.declared.fault.Fault.{Fault}
use Rattle.tl_base.specs.declared.fault.Fault.TheVariants as fault
use Rattle.wire_profile.specs.Indexes.{ProfileView}
use Rattle.box_wire.specs.Kinds.{frames}
use Rattle.box_wire.specs.Framing.{WireRefused}
use Rattle.update_sessions.specs.declared.fault.SessionFault.{SessionFault}
use Rattle.update_sessions.specs.declared.fault.SessionFault.TheVariants.{Packet, Wire, Client, TooManyFrames, LinkFault}
use Rattle.update_sessions.specs.Links.{OverLink}
use Rattle.update_sessions.specs.Exchanges.{Side, Exchanged, Cut}
use Rattle.update_sessions.specs.Receiving.{RefusedPacket}
use Rattle.update_sessions.specs.Hearing.{cause_of, client_side, hears}
use Rattle.update_sessions.specs.Heard.{NoFrame, RefusedFrame}

-- ---- a buffer

-- a message's packet is appended
abbrev pub Puts : (List ℕ → Type 0) → List ℕ → List ℕ → Type 0
Puts Spells old new = (b : List ℕ) × Spells b × (new ≡ old ++ packet b)

-- a client hears a frame, or refuses it
abbrev pub HearsFrame : ClientState → Frame → Result (Unit {0}) (Fault ClientFault) → ClientState → Type 0
HearsFrame c f (Ok u) d = (cause_of c f ≡ None) × (d ≡ hears c f)
HearsFrame c f (Err (fault.Refused cause)) d = (cause_of c f ≡ Some cause) × (d ≡ c)
HearsFrame c f (Err fault.Memory) d = d ≡ c

-- ---- a step

-- these messages were taken up to now, and all that is sent for them was written
abbrev pub SoFar : {S M N : Type 0} → Side S M N → S → List M → Option (List ℕ) → Option (List ℕ) → Option (List ℕ) → Option (List ℕ) → S → Type 0
SoFar {S} {M} {N} side s ms None written left_now written_now t = Unit {0}
SoFar {S} {M} {N} side s ms (Some bytes) None left_now written_now t = Unit {0}
SoFar {S} {M} {N} side s ms (Some bytes) (Some before) left_now written_now t =
    (left : List ℕ) × (out : List ℕ) × Appends (Some before) written_now out × (left_now ≡ Some left) × Exchanged side s bytes left out t ms

-- so many messages were
abbrev pub SoMany : {S M N : Type 0} → Side S M N → S → ℕ → Option (List ℕ) → Option (List ℕ) → Option (List ℕ) → Option (List ℕ) → S → Type 0
SoMany {S} {M} {N} side s n left written left_now written_now t = (ms : List M) × (length ms ≡ n) × SoFar side s ms left written left_now written_now t

-- nothing was written, and the side is as before
abbrev pub Unmoved : {S : Type 0} → S → List ℕ → S → Type 0
Unmoved s out t = (out ≡ []) × (t ≡ s)

-- it breaks off, with one more message at most
abbrev pub BreaksOff : {S M N : Type 0} → Side S M N → S → List ℕ → List ℕ → S → List M → Type 0
BreaksOff {S} {M} {N} side s bytes out t ms = (length ms ≤ 1) × Cut side s bytes out t ms

-- why a client takes no frame
abbrev pub HearsNone : ProfileView → ClientState → List ℕ → List ℕ → ClientState → SessionFault → Type 0
HearsNone p c bytes out d (Packet fault) = Unmoved c out d × NoFrame bytes fault
HearsNone p c bytes out d (Wire fault) = Unmoved c out d × RefusedPacket (WireRefused p frames) bytes fault
HearsNone p c bytes out d (Client fault) = (f : Frame) × Unmoved c out d × RefusedFrame p c bytes f fault
HearsNone p c bytes out d TooManyFrames = ⊥
HearsNone p c bytes out d LinkFault = (fs : List Frame) × BreaksOff (client_side p) c bytes out d fs

-- a frame is heard, or a fault
abbrev pub HearsNext : ProfileView → ClientState → Option (List ℕ) → Option (List ℕ) → Option (List ℕ) → Option (List ℕ) → ClientState → Result (Unit {0}) SessionFault → Type 0
HearsNext p c left written left_now written_now d (Ok u) = SoMany (client_side p) c 1 left written left_now written_now d
HearsNext p c left written left_now written_now d (Err fault) = OverLink left written written_now (λ bytes out. HearsNone p c bytes out d fault)
