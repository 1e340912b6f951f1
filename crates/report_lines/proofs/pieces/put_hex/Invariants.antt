use Rattle.std.proofs.Common.{◌≡◌, ◌+◌, ◌*◌, ◌-◌, ◌≤◌, ◌++◌, drop, length, vec_len, vec_capacity}
use Rattle.hex.specs.Hex.{encode_lower}
use Rattle.report_lines.proofs.pieces.put_hex.Given as goal

abbrev pub invariant-loop-byte : goal.invariant-loop-byte
invariant-loop-byte l = record {
  room : vec_len l.lines + 2 * (length l.bytes - l.byte-index) ≤ vec_capacity l.lines;
  lines : l.lines.items ++ encode_lower (drop l.byte-index l.bytes) ≡ l.fn.lines.items ++ encode_lower l.bytes;
}
