-- How a packet is read: its length, and then its bytes.
use Rattle.std.proofs.Common.{◌≡◌, ℕ, List, ◌++◌, Option, Some, None, Ok, Err, sym, ap, inr}
use Rattle.std.specs.Prelude.{IfSome}
use Rattle.std.proofs.KnownBytes.{Consumes-trans}
use Rattle.tl_numbers.specs.Numbers.{word}
use Rattle.tl_base.specs.Taking.{TakesBytes, TakesUpTo}
use Rattle.tl_base.specs.Packets.{IsPacketLength, ReadsPacket, as_packet_fault}
use Rattle.tl_base.specs.declared.source.TextFault.{TextFault}
use Rattle.tl_base.specs.declared.source.TextFault.TheVariants as text
use Rattle.tl_base.specs.declared.packet.PacketFault.TheVariants.{ReadFault}

-- the head and what follows it
both : (n : ℕ) (head taken : List ℕ) → word n ≡ head → head ++ taken ≡ word n ++ taken
both n head taken e = ap (λ (z : List ℕ). z ++ taken) (sym e)

pub body_fault : (a b c : Option (List ℕ)) (into head taken : List ℕ) (n : ℕ) (f : TextFault) → word n ≡ head → IsPacketLength n → IfSome a (λ bytes. TakesBytes 4 bytes b (Ok head)) → IfSome b (λ bytes. TakesUpTo n taken bytes c (Err f))
    → IfSome a (λ bytes. ReadsPacket bytes c into (Err (as_packet_fault f)))
body_fault None b c into head taken n f e fits h g = tt
body_fault (Some x) None c into head taken n f e fits h g = absurd h.1
body_fault (Some x) (Some y) c into head taken n text.ReadFault e fits h g =
    (head ++ taken, Consumes-trans (Some x) (Some y) c head taken h.1 g.0, inr (n, taken, fits, both n head taken e, g.1))
body_fault (Some x) (Some y) c into head taken n text.Memory e fits h g =
    (head ++ g.0, Consumes-trans (Some x) (Some y) c head g.0 h.1 g.1, inr (n, g.0, fits, both n head g.0 e, g.2))
