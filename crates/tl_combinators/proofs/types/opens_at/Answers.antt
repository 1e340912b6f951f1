use Rattle.std.proofs.Common.{arith}
use Rattle.tl_lexer.proofs.Steps.{as_err}
use Rattle.tl_combinators.proofs.Parentheses.{opens_more, opens_ok, opens_err}
use Rattle.tl_combinators.proofs.types.opens_at.Goals as goal

pub loop-at-preserved : goal.loop-at-preserved
loop-at-preserved c = record {
  far = omega (arith, c.in_ok-take_token.ensures.on);
  inside = λ h. c.in_ok-take_token.ensures.inside;
  same = c.loop-at.invariant.same;
  opened = opens_more c.args.text.now c.loop-at.invariant.opened (c.begins.ensures.yes c.loop-at-test.true) c.in_ok-take_token.ensures.read (omega (arith, c.in_ok-take_token.ensures.on));
}

pub returns-in_err-take_token-clause-read : goal.returns-in_err-take_token-clause-read
returns-in_err-take_token-clause-read c = as_err c.from_residual.ensures.1 (opens_err c.args.text.now c.loop-at.invariant.opened (c.begins.ensures.yes c.loop-at-test.true) c.in_err-take_token.ensures.read)

pub returns-clause-read : goal.returns-clause-read
returns-clause-read c = opens_ok c.args.text.now c.loop-at.invariant.opened (c.begins.ensures.no c.loop-at-test.false)
