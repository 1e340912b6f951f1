use Rattle.std.proofs.Common.{refl}
use Rattle.tl_lexer.proofs.Steps.{then_ok, then_err, gives_ok, as_err}
use Rattle.tl_combinators.specs.BuiltInLines.{boxed}
use Rattle.tl_combinators.proofs.built_in.boxed_at.Goals as goal

pub returns-in_err-take_token-clause-read : goal.returns-in_err-take_token-clause-read
unfolding boxed
returns-in_err-take_token-clause-read c = as_err c.from_residual.ensures.1 (then_err _ c.in_err-take_token.ensures.read)

pub returns-in_err-this_type_at-clause-read : goal.returns-in_err-this_type_at-clause-read
unfolding boxed
returns-in_err-this_type_at-clause-read c = as_err c.from_residual-in_err-this_type_at.ensures.1 (then_ok _ c.in_ok-take_token.ensures.read (then_err _ c.in_err-this_type_at.ensures.read))

pub returns-in_err-take_token-2-clause-read : goal.returns-in_err-take_token-2-clause-read
unfolding boxed
returns-in_err-take_token-2-clause-read c = as_err c.from_residual-in_err-take_token-2.ensures.1 (then_ok _ c.in_ok-take_token.ensures.read (then_ok _ c.in_ok-this_type_at.ensures.read (then_err _ c.in_err-take_token-2.ensures.read)))

pub returns-clause-read : goal.returns-clause-read
unfolding boxed
returns-clause-read c = then_ok _ c.in_ok-take_token.ensures.read (then_ok _ c.in_ok-this_type_at.ensures.read (then_ok _ c.in_ok-take_token-2.ensures.read (gives_ok refl)))
