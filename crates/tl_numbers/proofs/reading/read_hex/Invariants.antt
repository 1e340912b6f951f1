use Rattle.std.proofs.Common.{◌≡◌, true, ℕ, ◌^◌, ◌<◌, drop, get_or}
use Rattle.std.specs.List.{fold}
use Rattle.tl_numbers.specs.HexText.{is_digit, with_digit, hex_value}
use Rattle.tl_numbers.proofs.reading.read_hex.Given as goal

abbrev pub invariant-loop-byte : goal.invariant-loop-byte
invariant-loop-byte l = record {
  value : fold with_digit l.number (drop l.byte-index l.text) ≡ hex_value l.text;
  digits : (i : ℕ) → i < l.byte-index → is_digit (get_or l.text i 0) ≡ true;
  small : l.number < 16 ^ l.byte-index;
}
