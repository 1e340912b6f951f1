use Rattle.std.proofs.Common.{rules}
use Rattle.std.proofs.lemmas.List.Elements.{All-more}
use Rattle.commands.specs.Numbers.{IsDigit}
use Rattle.commands.proofs.Digits.{more_value}
use Rattle.commands.proofs.number.value_of.Goals as goal

pub loop-digit-preserved : goal.loop-digit-preserved
loop-digit-preserved c = (
  All-more IsDigit c.args.digits.now c.loop-digit.digit-index 0 (search rules) c.loop-digit.invariant.0 c.in_ok-digit_of.ensures.0,
  more_value c.args.digits.now c.loop-digit.digit-index c.in_ok-digit_of.field-0 c.loop-digit.value c.saturating_mul.result _ (search rules) c.loop-digit.invariant.1 c.in_ok-digit_of.ensures.1 c.saturating_mul.ensures c.saturating_add-value.ensures,
)
