-- Packets as they are taken from a slot: a length in four bytes, and so many bytes. This project's own.
use Rattle.std.specs.Prelude.{ℕ, zero, suc, ◌+◌, List, [], ◌++◌, length, codes, decimal, Option, Some, None, Result, Ok, Err}
use Rattle.tl_base.specs.Packets.{IsPacketLength}
use Rattle.tl_base.specs.declared.host.Slot.{Slot}
use Rattle.tl_base.specs.declared.packet.PacketCause.{PacketCause}
use Rattle.tl_base.specs.declared.packet.PacketCause.TheVariants.{BadLength, Ended}
use Rattle.tl_numbers.specs.Numbers.{word_number}
use Rattle.outside.specs.Events.{Event}
use Rattle.outside.specs.Pieces.{TakenView, Takes}
use Rattle.outside.specs.Pieces as taken
use Rattle.outside.specs.Steps.{Step, Then, Ends}
use Rattle.outside.specs.declared.packets.Packet.{Packet}
use Rattle.outside.specs.declared.packets.Packet.TheVariants as packet

-- The content of a packet; the input ended before a packet's first byte; the next bytes are no packet; or a read failed.
pub data PacketView : Type 0 where
  whole : (content : List ℕ) → PacketView
  none : PacketView
  wrong : (cause : PacketCause) → PacketView
  broken : PacketView

-- what is taken after the length
abbrev pub content_of : TakenView → PacketView
content_of (taken.full content) = whole content
content_of (taken.short content) = wrong (Ended (4 + length content))
content_of taken.broken = broken

-- No packet has such a length, and nothing more is read; or so many bytes are taken.
pub data AfterLength (slot : Slot) (n : ℕ) (t : List Event) (p : PacketView) : Type 0 where
  bad : ¬ IsPacketLength n → Ends (wrong (BadLength n)) t p → AfterLength slot n t p
  good : IsPacketLength n → Then (Takes slot n) (λ content. Ends (content_of content)) t p → AfterLength slot n t p

-- the input ended in the length, after so many bytes of it
abbrev pub cut_off : ℕ → PacketView
cut_off zero = none
cut_off (suc had) = wrong (Ended (suc had))

abbrev pub after_head : Slot → TakenView → Step PacketView
after_head slot (taken.full head) = AfterLength slot (word_number head)
after_head slot (taken.short head) = Ends (cut_off (length head))
after_head slot taken.broken = Ends broken

-- a packet is taken, and nothing past it: its length's four bytes, and then what follows of the length
abbrev pub TakesPacket : Slot → Step PacketView
TakesPacket slot = Then (Takes slot 4) (after_head slot)

-- why the next bytes are no packet, as lines have it
abbrev pub packet_words : PacketCause → List ℕ
packet_words (BadLength n) = codes "BadLength " ++ decimal n
packet_words (Ended had) = codes "Ended " ++ decimal had

-- ---- what calls answer; none where they ran out of memory

abbrev pub packet_view : Packet → PacketView
packet_view (packet.Whole content) = whole content.items
packet_view packet.None = none
packet_view (packet.Wrong cause) = wrong cause
packet_view packet.Broken = broken

abbrev pub packet_by : {E : Type 0} → Result Packet E → Option PacketView
packet_by (Ok p) = Some (packet_view p)
packet_by (Err e) = None
