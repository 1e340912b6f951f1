use Rattle.std.proofs.Common.{arith, ◌-◌}
use Rattle.tl_lexer.proofs.Steps.{as_err}
use Rattle.tl_combinators.proofs.Parentheses.{left_one, left_none, left_err, left_all}
use Rattle.tl_combinators.proofs.types.closes_at.Goals as goal

pub loop-init : goal.loop-init
loop-init c = record {
  far = omega arith;
  inside = λ h. h;
  left = left_all c.args.text.now c.args.count (c.args.count - 0) _ (omega arith);
}

pub returns-in_err-take_token-clause-read : goal.returns-in_err-take_token-clause-read
returns-in_err-take_token-clause-read c = as_err c.from_residual.ensures.1 (left_err c.args.text.now c.args.count (c.args.count - c.loop.counter) (c.args.count - c.loop.counter - 1) c.loop.invariant.left (omega arith) c.in_err-take_token.ensures.read)

pub loop-preserved : goal.loop-preserved
loop-preserved c = record {
  far = omega (arith, c.in_ok-take_token.ensures.on);
  inside = λ h. c.in_ok-take_token.ensures.inside;
  left = left_one c.args.text.now c.args.count (c.args.count - c.loop.counter) _ c.loop.invariant.left (omega arith) c.in_ok-take_token.ensures.read;
}

pub returns-clause-read : goal.returns-clause-read
returns-clause-read c = left_none c.args.text.now c.args.count (c.args.count - c.loop.counter) c.loop.invariant.left (omega arith)
