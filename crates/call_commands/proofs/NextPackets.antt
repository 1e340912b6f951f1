-- The next packet of a file, as it is read.
use Rattle.std.proofs.Common.{◌≡◌, ℕ, ◌+◌, List, length, length-append, arith}
use Rattle.tl_numbers.specs.Numbers.{word}
use Rattle.tl_base.specs.Packets.{packet}
use Rattle.tl_numbers.proofs.Spelled.{words}

-- a packet's length and its content
pub packet_long : (content : List ℕ) → length (packet content) ≡ 4 + length content
packet_long content = omega (arith, length-append (word (length content)) content, words.long (length content))
