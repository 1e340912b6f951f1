use Rattle.std.proofs.Common.{◌≡◌, true, drop, replicate}
use Rattle.tl_numbers.specs.Crc.{lowest_bits, text_bits}
use Rattle.tl_numbers.proofs.Register.{run}
use Rattle.tl_numbers.proofs.crc.crc32.Given as goal

abbrev pub invariant-loop-byte : goal.invariant-loop-byte
invariant-loop-byte l = run (lowest_bits 32 l.register) (text_bits (drop l.byte-index l.text)) ≡ run (replicate 32 true) (text_bits l.text)
