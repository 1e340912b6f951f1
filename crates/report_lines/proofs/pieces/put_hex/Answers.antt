use Rattle.std.proofs.Common.{ℕ, arith, slice_index, refl, ap}
use Rattle.std.proofs.lemmas.Nat.{and_mask}
use Rattle.hex.specs.Hex.{lower_digits}
use Rattle.report_lines.proofs.Digits.{digits_put, digits_done}
use Rattle.report_lines.proofs.pieces.put_hex.Goals as goal

pub loop-byte-preserved : goal.loop-byte-preserved
loop-byte-preserved c =
    let byte : ℕ = slice_index c.args.bytes.now c.loop-byte.byte-index in
    record {
      room = omega (arith, c.loop-byte.invariant.room, c.loop-byte-test.true, c.push_reserved.ensures.len, c.push_reserved.ensures.capacity, c.push_reserved-in-loop-byte.ensures.len, c.push_reserved-in-loop-byte.ensures.capacity);
      lines = digits_put c.args.bytes.now c.loop-byte.byte-index _ _ _ _ _ _ c.loop-byte-test.true refl (ap (λ (k : ℕ). slice_index lower_digits k) (and_mask byte 4)) c.loop-byte.invariant.lines c.push_reserved.ensures.items c.push_reserved-in-loop-byte.ensures.items;
    }

pub returns : goal.returns
returns c = digits_done c.args.bytes.now c.loop-byte.byte-index _ _ c.loop-byte-test.false c.loop-byte.invariant.lines
