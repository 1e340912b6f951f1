use Rattle.std.proofs.Common.{rules, arith}
use Rattle.tl_numbers.proofs.Digits.{has_room, digit_below, number_is}
use Rattle.tl_numbers.proofs.reading.read_hex.Goals as goal

pub overflow_mul-number : goal.overflow_mul-number
overflow_mul-number c = omega (arith, has_room c.args.text.now c.loop-byte.byte-index c.loop-byte.number (search rules) (omega (arith, c.if-text-gt-MOST_DIGITS.false)) c.loop-byte.invariant.small)

pub overflow_add-number : goal.overflow_add-number
overflow_add-number c =
    let room = has_room c.args.text.now c.loop-byte.byte-index c.loop-byte.number (search rules) (omega (arith, c.if-text-gt-MOST_DIGITS.false)) c.loop-byte.invariant.small in
    omega (arith, room, digit_below _ c.in_ok-number.field-0 c.in_ok-number.ensures.value.0 c.in_ok-number.ensures.value.1)

pub returns-clause-value : goal.returns-clause-value
returns-clause-value c = number_is c.args.text.now c.loop-byte.byte-index c.loop-byte.number (search rules) (omega (arith, c.if-text-gt-MOST_DIGITS.false)) (search rules) c.loop-byte.invariant.value c.loop-byte.invariant.digits
