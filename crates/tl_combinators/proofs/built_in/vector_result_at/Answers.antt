use Rattle.std.proofs.Common.{refl}
use Rattle.tl_lexer.proofs.Steps.{then_ok, then_err, gives_ok, as_err}
use Rattle.tl_combinators.specs.BuiltInLines.{vector_result}
use Rattle.tl_combinators.proofs.built_in.vector_result_at.Goals as goal

pub returns-in_err-take_token-clause-read : goal.returns-in_err-take_token-clause-read
unfolding vector_result
returns-in_err-take_token-clause-read c = as_err c.from_residual.ensures.1 (then_err _ c.in_err-take_token.ensures.read)

pub returns-in_err-this_type_at-clause-read : goal.returns-in_err-this_type_at-clause-read
unfolding vector_result
returns-in_err-this_type_at-clause-read c = as_err c.from_residual-in_err-this_type_at.ensures.1 (then_ok _ c.in_ok-take_token.ensures.read (then_err _ (rw c.as_slice.ensures at c.in_err-this_type_at.ensures.read)))

pub returns-in_err-take_this-clause-read : goal.returns-in_err-take_this-clause-read
unfolding vector_result
returns-in_err-take_this-clause-read c = as_err c.from_residual-in_err-take_this.ensures.1 (then_ok _ c.in_ok-take_token.ensures.read (then_ok _ (rw c.as_slice.ensures at c.in_ok-this_type_at.ensures.read) (then_err _ (rw c.as_slice-2.ensures at c.in_err-take_this.ensures.read))))

pub returns-in_err-take_token-2-clause-read : goal.returns-in_err-take_token-2-clause-read
unfolding vector_result
returns-in_err-take_token-2-clause-read c = as_err c.from_residual-in_err-take_token-2.ensures.1 (then_ok _ c.in_ok-take_token.ensures.read (then_ok _ (rw c.as_slice.ensures at c.in_ok-this_type_at.ensures.read) (then_ok _ (rw c.as_slice-2.ensures at c.in_ok-take_this.ensures.read) (then_err _ c.in_err-take_token-2.ensures.read))))

pub returns-clause-read : goal.returns-clause-read
unfolding vector_result
returns-clause-read c = then_ok _ c.in_ok-take_token.ensures.read (then_ok _ (rw c.as_slice.ensures at c.in_ok-this_type_at.ensures.read) (then_ok _ (rw c.as_slice-2.ensures at c.in_ok-take_this.ensures.read) (then_ok _ c.in_ok-take_token-2.ensures.read (gives_ok refl))))
