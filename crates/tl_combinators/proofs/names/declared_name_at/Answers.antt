use Rattle.tl_lexer.proofs.Steps.{then_ok, then_err, as_err}
use Rattle.tl_combinators.specs.Names.{declared_name}
use Rattle.tl_combinators.proofs.names.declared_name_at.Goals as goal

pub returns-in_err-word-clause-read : goal.returns-in_err-word-clause-read
unfolding declared_name
returns-in_err-word-clause-read c = as_err c.from_residual.ensures.1 (then_err _ c.in_err-word.ensures.read)

pub returns-clause-read : goal.returns-clause-read
unfolding declared_name
returns-clause-read c = then_ok _ c.in_ok-word.ensures.read c.name_from_at.ensures.read
