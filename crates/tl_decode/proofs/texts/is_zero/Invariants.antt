use Rattle.std.proofs.Common.{◌≡◌, drop}
use Rattle.tl_types.specs.inner.Reading.{all_zero}
use Rattle.tl_decode.proofs.texts.is_zero.Given as goal

abbrev pub invariant-loop-byte : goal.invariant-loop-byte
invariant-loop-byte l = all_zero (drop l.byte-index l.bytes) ≡ all_zero l.bytes
