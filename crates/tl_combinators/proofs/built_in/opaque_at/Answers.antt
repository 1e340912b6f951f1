use Rattle.tl_lexer.proofs.Steps.{then_ok, then_err, as_err}
use Rattle.tl_combinators.specs.BuiltInLines.{opaque}
use Rattle.tl_combinators.proofs.built_in.opaque_at.Goals as goal

pub returns-in_err-take_token-clause-read : goal.returns-in_err-take_token-clause-read
unfolding opaque
returns-in_err-take_token-clause-read c = as_err c.from_residual.ensures.1 (then_err _ c.in_err-take_token.ensures.read)

pub returns-clause-read : goal.returns-clause-read
unfolding opaque
returns-clause-read c = then_ok _ c.in_ok-take_token.ensures.read c.boxed_at.ensures.read
