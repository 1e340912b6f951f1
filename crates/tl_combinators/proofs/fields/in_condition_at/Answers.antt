use Rattle.std.proofs.Common.{rules}
use Rattle.tl_lexer.proofs.Steps.{then_ok, then_err, as_err, gives_ok}
use Rattle.tl_combinators.specs.Fields.{in_condition}
use Rattle.tl_combinators.proofs.fields.in_condition_at.Goals as goal

pub returns-in_err-cond-clause-read : goal.returns-in_err-cond-clause-read
unfolding in_condition
returns-in_err-cond-clause-read c = as_err c.from_residual.ensures.1 (then_err _ c.in_err-cond.ensures.read)

pub returns-in_err-tree-clause-read : goal.returns-in_err-tree-clause-read
unfolding in_condition
returns-in_err-tree-clause-read c = as_err c.from_residual-in_err-tree.ensures.1 (then_ok _ c.in_ok-cond.ensures.read (then_err _ c.in_err-tree.ensures.read))

pub returns-clause-read : goal.returns-clause-read
unfolding in_condition
returns-clause-read c = then_ok _ c.in_ok-cond.ensures.read (then_ok _ c.in_ok-tree.ensures.read (gives_ok (search rules)))
