use Rattle.std.proofs.Common.{arith}
use Rattle.tl_combinators.proofs.Conditions.{bit_ok, bit_err, bit_past}
use Rattle.tl_combinators.proofs.fields.bit_at.Goals as goal

pub returns-then-at-tokens-clause-read : goal.returns-then-at-tokens-clause-read
returns-then-at-tokens-clause-read c = bit_past c.args.text.now c.args.tokens.now _ _ (omega (arith, c.if-at-tokens.true)) c.unexpected_at.ensures

pub returns-in-Some-clause-read : goal.returns-in-Some-clause-read
returns-in-Some-clause-read c = bit_ok c.args.text.now c.args.tokens.now _ _ _ (omega (arith, c.if-at-tokens.false)) c.in-Some.ensures.some

pub returns-in-None-clause-read : goal.returns-in-None-clause-read
returns-in-None-clause-read c = bit_err c.args.text.now c.args.tokens.now _ _ _ (omega (arith, c.if-at-tokens.false)) c.in-None.ensures.none c.unexpected_at-in-None.ensures
