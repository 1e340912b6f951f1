use Rattle.tl_lexer.proofs.Steps.{then_ok, then_err, as_err}
use Rattle.tl_combinators.specs.BuiltInLines.{repeated}
use Rattle.tl_combinators.proofs.built_in.repeated_at.Goals as goal

pub returns-in_err-take_this-clause-read : goal.returns-in_err-take_this-clause-read
unfolding repeated
returns-in_err-take_this-clause-read c = as_err c.from_residual.ensures.1 (then_err _ c.in_err-take_this.ensures.read)

pub returns-in_err-take_token-clause-read : goal.returns-in_err-take_token-clause-read
unfolding repeated
returns-in_err-take_token-clause-read c = as_err c.from_residual-in_err-take_token.ensures.1 (then_ok _ c.in_ok-take_this.ensures.read (then_err _ c.in_err-take_token.ensures.read))

pub returns-in_err-bracketed_at-clause-read : goal.returns-in_err-bracketed_at-clause-read
unfolding repeated
returns-in_err-bracketed_at-clause-read c = as_err c.from_residual-in_err-bracketed_at.ensures.1 (then_ok _ c.in_ok-take_this.ensures.read (then_ok _ c.in_ok-take_token.ensures.read (then_err _ (rw c.as_slice.ensures at c.in_err-bracketed_at.ensures.read))))

pub returns-clause-read : goal.returns-clause-read
unfolding repeated
returns-clause-read c = then_ok _ c.in_ok-take_this.ensures.read (then_ok _ c.in_ok-take_token.ensures.read (then_ok _ (rw c.as_slice.ensures at c.in_ok-bracketed_at.ensures.read) c.boxed_at.ensures.read))
