-- Messages on a link: each is a packet of its bytes. This project's own.
use Rattle.std.specs.Prelude.{◌≡◌, ◌⊎◌, ℕ, ◌<◌, List, [], ◌∷◌, ◌++◌, length}
use Rattle.tl_numbers.specs.Numbers.{word}
use Rattle.tl_base.specs.Packets.{IsPacketLength, packet, IsCutShort}
use Rattle.tl_base.specs.declared.packet.PacketCause.{PacketCause}
use Rattle.tl_base.specs.declared.packet.PacketCause.TheVariants as packets
use Rattle.box_events.specs.declared.requests.Numbered.{Numbered}
use Rattle.box_events.specs.declared.replies.Frame.{Frame}
use Rattle.wire_profile.specs.Indexes.{ProfileView}
use Rattle.wire_values.specs.Calls.{call_tree}
use Rattle.wire_values.specs.CarriedFrames.{IsFrame}
use Rattle.wire_values.specs.Frames.{frame_tree}
use Rattle.box_wire.specs.Kinds.{calls, frames}
use Rattle.box_wire.specs.Framing.{Framed, Means}

-- ---- what bytes spell, and what they mean, by a profile

abbrev pub SpellsCall : ProfileView → Numbered → List ℕ → Type 0
SpellsCall p c b = Framed p calls (call_tree c) b

abbrev pub MeansCall : ProfileView → Numbered → List ℕ → Type 0
MeansCall p c b = Means p calls (call_tree c) b

abbrev pub SpellsFrame : ProfileView → Frame → List ℕ → Type 0
SpellsFrame p f b = Framed p frames (frame_tree f) b

abbrev pub MeansFrame : ProfileView → Frame → List ℕ → Type 0
MeansFrame p f b = IsFrame f × Means p frames (frame_tree f) b

-- ---- packets

-- the packets of messages, as they are spelled
abbrev pub Packed : {M : Type 0} → (M → List ℕ → Type 0) → List M → List ℕ → Type 0
Packed Spells [] bytes = bytes ≡ []
Packed Spells (m ∷ ms) bytes = (b : List ℕ) × (rest : List ℕ) × Spells m b × (bytes ≡ packet b ++ rest) × Packed Spells ms rest

-- a prefix of that: the messages that weren't begun need no spelling
abbrev pub PartlyPacked : {M : Type 0} → (M → List ℕ → Type 0) → List M → List ℕ → Type 0
PartlyPacked Spells [] out = out ≡ []
PartlyPacked Spells (m ∷ ms) out =
    (out ≡ [])
    ⊎ ((b : List ℕ) × (rest : List ℕ) × Spells m b × ((out ++ rest ≡ packet b) ⊎ ((out ≡ packet b ++ rest) × PartlyPacked Spells ms rest)))

-- packets that mean these messages come first, and this is left
abbrev pub Came : {M : Type 0} → (M → List ℕ → Type 0) → List ℕ → List M → List ℕ → Type 0
Came Means bytes [] left = bytes ≡ left
Came Means bytes (m ∷ ms) left = (b : List ℕ) × (rest : List ℕ) × IsPacketLength (length b) × (bytes ≡ packet b ++ rest) × Means m b × Came Means rest ms left

-- bytes begin with no packet
abbrev pub NoPacket : List ℕ → PacketCause → Type 0
NoPacket bytes (packets.BadLength n) = (rest : List ℕ) × (bytes ≡ word n ++ rest) × ¬ IsPacketLength n
NoPacket bytes (packets.Ended had) = (length bytes ≡ had) × (0 < had) × IsCutShort bytes
